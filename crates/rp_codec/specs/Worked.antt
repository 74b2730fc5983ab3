-- Worked payloads and their bytes.
use Rattle.std.specs.Prelude.{ℕ, ◌+◌, ◌*◌, ◌^◌, List, [], ◌∷◌, ◌++◌, take, drop, None}
use Rattle.rp_base.specs.declared.Value.{Value}
use Rattle.rp_base.specs.declared.Value.TheVariants.{Number, Text}
use Rattle.rp_request.specs.declared.Op.TheVariants as ops
use Rattle.rp_request.specs.declared.Payload.{Payload}
use Rattle.rp_request.specs.declared.Payload.TheVariants as payloads
use Rattle.rp_request.specs.declared.Reply.TheVariants as replies
use Rattle.rp_request.specs.declared.Request.TheVariants as requests

-- the number of the key `a`
abbrev pub key_a : ℕ
key_a = 97 * 256 ^ 15

-- the put of `a` to a value by client 1, number 1, attempt 1 under sequence 1 with maximum 1; before it the key had no value
abbrev pub put_of : Value → Payload
put_of value = payloads.Write (record {
  id = record { client = 1; seq = 1; attempt = 1 };
  request = requests.Put key_a value;
  batch = ops.Set key_a value ∷ [];
  reply = replies.Old None;
  seq = 1;
  max = 1;
})

-- the put of the number 5
abbrev pub put_of_a : Payload
put_of_a = put_of (Number 5)

-- its 51 bytes
abbrev pub put_bytes : List ℕ
put_bytes = 1 ∷ 1 ∷ 0 ∷ 1 ∷ 0 ∷ 0 ∷ 0 ∷ 1 ∷ 0 ∷ 1 ∷ 0 ∷ 0 ∷ 0 ∷ 0 ∷ 0 ∷ 0 ∷ 0 ∷ 1 ∷ 0 ∷ 0 ∷ 0 ∷ 0 ∷ 0 ∷ 0 ∷ 0 ∷ 1
    ∷ 1 ∷ 1 ∷ 97 ∷ 0 ∷ 0 ∷ 0 ∷ 0 ∷ 0 ∷ 0 ∷ 0 ∷ 5 ∷ 1 ∷ 0 ∷ 1 ∷ 1 ∷ 1 ∷ 97 ∷ 0 ∷ 0 ∷ 0 ∷ 0 ∷ 0 ∷ 0 ∷ 0 ∷ 5 ∷ []

-- the put of the text `hi`
abbrev pub text_of_a : Payload
text_of_a = put_of (Text (104 ∷ 105 ∷ []))

-- its 43 bytes
abbrev pub text_put_bytes : List ℕ
text_put_bytes = 2 ∷ 1 ∷ 0 ∷ 1 ∷ 0 ∷ 0 ∷ 0 ∷ 1 ∷ 0 ∷ 1 ∷ 0 ∷ 0 ∷ 0 ∷ 0 ∷ 0 ∷ 0 ∷ 0 ∷ 1 ∷ 0 ∷ 0 ∷ 0 ∷ 0 ∷ 0 ∷ 0 ∷ 0 ∷ 1
    ∷ 1 ∷ 1 ∷ 97 ∷ 1 ∷ 2 ∷ 104 ∷ 105 ∷ 1 ∷ 0 ∷ 1 ∷ 1 ∷ 1 ∷ 97 ∷ 1 ∷ 2 ∷ 104 ∷ 105 ∷ []

-- the put of the number 5 as version 2 would spell it
abbrev pub number_by_2 : List ℕ
number_by_2 = 2 ∷ 1 ∷ 0 ∷ 1 ∷ 0 ∷ 0 ∷ 0 ∷ 1 ∷ 0 ∷ 1 ∷ 0 ∷ 0 ∷ 0 ∷ 0 ∷ 0 ∷ 0 ∷ 0 ∷ 1 ∷ 0 ∷ 0 ∷ 0 ∷ 0 ∷ 0 ∷ 0 ∷ 0 ∷ 1
    ∷ 1 ∷ 1 ∷ 97 ∷ 0 ∷ 0 ∷ 0 ∷ 0 ∷ 0 ∷ 0 ∷ 0 ∷ 0 ∷ 5 ∷ 1 ∷ 0 ∷ 1 ∷ 1 ∷ 1 ∷ 97 ∷ 0 ∷ 0 ∷ 0 ∷ 0 ∷ 0 ∷ 0 ∷ 0 ∷ 0 ∷ 5 ∷ []

-- the bytes with this one at a place
abbrev pub put_byte : (place byte : ℕ) → List ℕ → List ℕ
put_byte place byte bytes = take place bytes ++ byte ∷ drop (place + 1) bytes
