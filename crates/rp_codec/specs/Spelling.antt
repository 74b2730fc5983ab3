-- How payloads are spelled as bytes (this project): by version 2 where a text is held, and else by version 1.
-- A number stands with its highest byte first.
use Rattle.std.specs.Prelude.{ℕ, Bool, true, false, if◌then◌else◌, List, [], ◌∷◌, ◌++◌, length, Option, None, Some}
use Rattle.std.specs.Int.{w16, w32, w64, to_be_bytes}
use Rattle.std.specs.List.{flat_map}
use Rattle.rp_base.specs.Keys.{key_text}
use Rattle.rp_base.specs.declared.CmdId.{CmdId}
use Rattle.rp_base.specs.declared.KeySpan.{KeySpan}
use Rattle.rp_base.specs.declared.LeaseAsk.{LeaseAsk}
use Rattle.rp_base.specs.declared.Value.{Value}
use Rattle.rp_base.specs.declared.Value.TheVariants.{Number, Text}
use Rattle.rp_request.specs.Texts.{payload_has_text}
use Rattle.rp_request.specs.declared.Command.{Command}
use Rattle.rp_request.specs.declared.Op.{Op}
use Rattle.rp_request.specs.declared.Op.TheVariants as ops
use Rattle.rp_request.specs.declared.Payload.{Payload}
use Rattle.rp_request.specs.declared.Payload.TheVariants as payloads
use Rattle.rp_request.specs.declared.Reply.{Reply}
use Rattle.rp_request.specs.declared.Reply.TheVariants as replies
use Rattle.rp_request.specs.declared.Request.{Request}
use Rattle.rp_request.specs.declared.Request.TheVariants as requests

-- a text: how many bytes it has, and these
unfoldable pub text_bytes : List ℕ → List ℕ
text_bytes text = length text ∷ text

-- a value with its kind: 0 and a number, or 1 and a text
unfoldable pub tagged_bytes : Value → List ℕ
tagged_bytes (Number n) = 0 ∷ to_be_bytes w64 n
tagged_bytes (Text text) = 1 ∷ text_bytes text

-- a value without its kind: a number; no text is so spelled
unfoldable pub plain_bytes : Value → List ℕ
plain_bytes (Number n) = to_be_bytes w64 n
plain_bytes (Text text) = []

-- a value: with its kind where texts may stand, that is, in version 2
unfoldable pub value_bytes : Bool → Value → List ℕ
value_bytes true v = tagged_bytes v
value_bytes false v = plain_bytes v

-- a key: how many bytes it has, and these
unfoldable pub key_bytes : ℕ → List ℕ
key_bytes k = length (key_text k) ∷ key_text k

-- a value that may be missing: 0, or 1 and the value
unfoldable pub option_bytes : Bool → Option Value → List ℕ
option_bytes texts None = 0 ∷ []
option_bytes texts (Some v) = 1 ∷ value_bytes texts v

-- the end of a span: 255 for the end of the key space, or a key
unfoldable pub end_bytes : Option ℕ → List ℕ
end_bytes None = 255 ∷ []
end_bytes (Some k) = key_bytes k

-- a span of keys: its start and its end
unfoldable pub span_bytes : KeySpan → List ℕ
span_bytes s = key_bytes s.start ++ end_bytes s.end

-- a request: its tag, and its fields
unfoldable pub request_bytes : Bool → Request → List ℕ
request_bytes texts (requests.Put k v) = 1 ∷ (key_bytes k ++ value_bytes texts v)
request_bytes texts (requests.Add k n) = 2 ∷ (key_bytes k ++ to_be_bytes w64 n)
request_bytes texts (requests.CPut k o v) = 3 ∷ (key_bytes k ++ option_bytes texts o ++ value_bytes texts v)
request_bytes texts (requests.Del k) = 4 ∷ key_bytes k
request_bytes texts (requests.Wipe s) = 5 ∷ span_bytes s
request_bytes texts (requests.Move k l n) = 6 ∷ (key_bytes k ++ key_bytes l ++ to_be_bytes w64 n)
request_bytes texts (requests.Split k) = 7 ∷ key_bytes k

-- a reply: its tag, and its field
unfoldable pub reply_bytes : Bool → Reply → List ℕ
reply_bytes texts (replies.Old o) = 1 ∷ option_bytes texts o
reply_bytes texts (replies.Now n) = 2 ∷ to_be_bytes w64 n
reply_bytes texts replies.Set = 3 ∷ []
reply_bytes texts (replies.Count n) = 4 ∷ to_be_bytes w64 n
reply_bytes texts (replies.Range r) = 5 ∷ r ∷ []

-- one write of a batch: its tag, and its fields
unfoldable pub op_bytes : Bool → Op → List ℕ
op_bytes texts (ops.Set k v) = 1 ∷ (key_bytes k ++ value_bytes texts v)
op_bytes texts (ops.Remove k) = 2 ∷ key_bytes k

-- a batch: how many writes it has, and these
unfoldable pub batch_bytes : Bool → List Op → List ℕ
batch_bytes texts writes = length writes ∷ flat_map (op_bytes texts) writes

-- an attempt: client, number, attempt
unfoldable pub id_bytes : CmdId → List ℕ
id_bytes i = to_be_bytes w16 i.client ++ to_be_bytes w32 i.seq ++ to_be_bytes w16 i.attempt

-- a command: attempt, lease sequence, maximum, request, reply, batch
unfoldable pub command_bytes : Bool → Command → List ℕ
command_bytes texts c = id_bytes c.id ++ to_be_bytes w64 c.seq ++ to_be_bytes w64 c.max ++ request_bytes texts c.request ++ reply_bytes texts c.reply ++ batch_bytes texts c.batch

-- a lease ask: holder, former sequence, expiry
unfoldable pub ask_bytes : LeaseAsk → List ℕ
ask_bytes a = a.holder ∷ (to_be_bytes w64 a.prev ++ to_be_bytes w64 a.expires)

-- the version by which it is spelled
abbrev pub version : (texts : Bool) → ℕ
version texts = if texts then 2 else 1

-- a payload by a version: the version, the payload's tag, and its fields
unfoldable pub payload_bytes : Bool → Payload → List ℕ
payload_bytes texts payloads.Nothing = version texts ∷ 0 ∷ []
payload_bytes texts (payloads.Write c) = version texts ∷ 1 ∷ command_bytes texts c
payload_bytes texts (payloads.Lease a) = version texts ∷ 2 ∷ ask_bytes a

-- the one spelling of a payload: by version 2 where it holds a text, and else by version 1
unfoldable pub spelling : Payload → List ℕ
spelling p = payload_bytes (payload_has_text p) p
