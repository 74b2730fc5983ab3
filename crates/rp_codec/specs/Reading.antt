-- How bytes are read as a payload, field by field from the front, and which field is bad. Version 1 has no texts,
-- version 2 may have some.
use Rattle.std.specs.Prelude.{◌≡◌, ℕ, zero, suc, ◌+◌, ◌==◌, ◌&&◌, not, Bool, true, false, nat_le, nat_lt, if◌then◌else◌, List, [], ◌∷◌, length, take, Option, None, Some, Result, Ok, Err}
use Rattle.std.specs.Int.{Width, w16, w32, w64, byte_len, from_be_bytes}
use Rattle.rp_base.specs.Gives.{Gives}
use Rattle.rp_base.specs.Keys.{key_of}
use Rattle.rp_base.specs.ShortTexts.{text_of}
use Rattle.rp_base.specs.Spans.{key_span_of}
use Rattle.rp_base.specs.declared.BadKey.{BadKey}
use Rattle.rp_base.specs.declared.BadText.{BadText}
use Rattle.rp_base.specs.declared.CmdId.{CmdId}
use Rattle.rp_base.specs.declared.KeySpan.{KeySpan}
use Rattle.rp_base.specs.declared.LeaseAsk.{LeaseAsk}
use Rattle.rp_base.specs.declared.Value.{Value}
use Rattle.rp_base.specs.declared.Value.TheVariants.{Number, Text}
use Rattle.rp_request.specs.Texts.{payload_has_text}
use Rattle.rp_request.specs.declared.Command.{Command}
use Rattle.rp_request.specs.declared.Op.{Op}
use Rattle.rp_request.specs.declared.Op.TheVariants as ops
use Rattle.rp_request.specs.declared.Payload.{Payload}
use Rattle.rp_request.specs.declared.Payload.TheVariants as payloads
use Rattle.rp_request.specs.declared.Reply.{Reply}
use Rattle.rp_request.specs.declared.Reply.TheVariants as replies
use Rattle.rp_request.specs.declared.Request.{Request}
use Rattle.rp_request.specs.declared.Request.TheVariants as requests
use Rattle.rp_codec.specs.Cursors.{Left, past, whole}
use Rattle.rp_codec.specs.declared.faults.BadField.{BadField}
use Rattle.rp_codec.specs.declared.faults.DecodeFault.{DecodeFault}
use Rattle.rp_codec.specs.declared.faults.DecodeFault.TheVariants as faults

-- the place of a bad field
abbrev pub bad : {A : Type 0} → ℕ → Result A BadField
bad place = Err (record { place = place })

-- what is read from the front, and what is left then; or the bad field
abbrev pub Reader : Type 0 → Type 0
Reader A = Left → Result (A × Left) BadField

abbrev pub going_on : {A B : Type 0} → Result (A × Left) BadField → (A → Reader B) → Result (B × Left) BadField
going_on (Ok found) f = f found.0 found.1
going_on (Err e) f = Err e

-- one field, and then those behind it
infixl 10 ◌>>=◌
abbrev pub ◌>>=◌ : {A B : Type 0} → Reader A → (A → Reader B) → Reader B
p >>= f = λ left. going_on (p left) f

-- nothing more is read
abbrev pub given : {A : Type 0} → A → Reader A
given x = λ left. Ok (x, left)

-- what is here is outside its form
abbrev pub refused : {A : Type 0} → Reader A
refused = λ left. bad left.place

abbrev pub begun_at : {A : Type 0} → ℕ → Result A BadField → Result A BadField
begun_at place (Ok x) = Ok x
begun_at place (Err e) = bad place

-- several parts that are one field: where one of them is bad, the field is
abbrev pub as_one_field : {A : Type 0} → Reader A → Reader A
as_one_field p = λ left. begun_at left.place (p left)

-- so many bytes
unfoldable pub bytes_at : ℕ → Reader (List ℕ)
bytes_at n = λ left. if nat_lt (length left.bytes) n then bad left.place else Ok (take n left.bytes, past n left)

abbrev pub first_of : ℕ → List ℕ → Result (ℕ × Left) BadField
first_of place [] = bad place
first_of place (b ∷ bytes) = Ok (b, record { place = place + 1; bytes = bytes })

-- one byte
unfoldable pub byte_at : Reader ℕ
byte_at = λ left. first_of left.place left.bytes

-- one byte from one number to another: a tag, a count, a node, a range
unfoldable pub byte_parts : ℕ → ℕ → Reader ℕ
byte_parts low high = do
  b ← byte_at
  if nat_le low b && nat_le b high then given b else refused

unfoldable pub byte_in : ℕ → ℕ → Reader ℕ
byte_in low high = as_one_field (byte_parts low high)

-- a number
unfoldable pub number_at : Width → Reader ℕ
number_at w = do
  bytes ← bytes_at (byte_len w)
  given (from_be_bytes w bytes)

-- what was read is a text, or is outside its form
abbrev pub as_text : Result (List ℕ) BadText → Reader (List ℕ)
as_text (Ok text) = given text
as_text (Err e) = refused

-- a text: a length, and so many bytes of a text
unfoldable pub text_parts : Reader (List ℕ)
text_parts = do
  len ← byte_at
  bytes ← bytes_at len
  as_text (text_of bytes)

unfoldable pub text_at : Reader (List ℕ)
text_at = as_one_field text_parts

-- a value without its kind: a number
unfoldable pub plain_at : Reader Value
plain_at = do
  n ← number_at w64
  given (Number n)

-- what stands behind a value's kind, which is 0 for a number and 1 for a text
unfoldable pub kind_of : ℕ → Reader Value
kind_of kind = if kind == 0 then plain_at else (text_at >>= λ text. given (Text text))

-- a value with its kind
unfoldable pub tagged_at : Reader Value
tagged_at = do
  kind ← byte_in 0 1
  kind_of kind

-- a value: with its kind where texts may stand, that is, in version 2
unfoldable pub value_at : Bool → Reader Value
value_at true = tagged_at
value_at false = plain_at

abbrev pub as_key : Result ℕ BadKey → Reader ℕ
as_key (Ok k) = given k
as_key (Err e) = refused

-- a key: a length, and so many bytes of a key
unfoldable pub key_parts : Reader ℕ
key_parts = do
  len ← byte_at
  text ← bytes_at len
  as_key (key_of text)

unfoldable pub key_at : Reader ℕ
key_at = as_one_field key_parts

-- a value that may be missing: 0, or 1 and the value
unfoldable pub option_parts : Bool → Reader (Option Value)
option_parts texts = do
  flag ← byte_in 0 1
  if flag == 0 then given None else (value_at texts >>= λ v. given (Some v))

-- in version 2 each part is a field by itself, in version 1 all are one
unfoldable pub option_at : Bool → Reader (Option Value)
option_at true = option_parts true
option_at false = as_one_field (option_parts false)

-- the next byte is this one
abbrev pub begins_with : ℕ → List ℕ → Bool
begins_with b [] = false
begins_with b (c ∷ bytes) = c == b

-- the end of a span: 255 for the end of the key space, or a key
abbrev pub end_where : Bool → Reader (Option ℕ)
end_where true = byte_at >>= λ b. given None
end_where false = key_at >>= λ k. given (Some k)

unfoldable pub end_at : Reader (Option ℕ)
end_at = λ left. end_where (begins_with 255 left.bytes) left

-- what was read is a span, or is outside its form
abbrev pub as_span : Option KeySpan → Reader KeySpan
as_span (Some s) = given s
as_span None = refused

-- a span of keys: its start, and its end
unfoldable pub span_parts : Reader KeySpan
span_parts = do
  start ← key_at
  end ← end_at
  as_span (key_span_of start end)

unfoldable pub span_at : Reader KeySpan
span_at = as_one_field span_parts

-- put: key, value
unfoldable pub put_at : Bool → Reader Request
put_at texts = do
  k ← key_at
  v ← value_at texts
  given (requests.Put k v)

-- add: key, number
unfoldable pub add_at : Reader Request
add_at = do
  k ← key_at
  n ← number_at w64
  given (requests.Add k n)

-- cput: key, expected value, value
unfoldable pub cput_at : Bool → Reader Request
cput_at texts = do
  k ← key_at
  o ← option_at texts
  v ← value_at texts
  given (requests.CPut k o v)

-- del: key
unfoldable pub del_at : Reader Request
del_at = do
  k ← key_at
  given (requests.Del k)

-- wipe: span
unfoldable pub wipe_at : Reader Request
wipe_at = do
  s ← span_at
  given (requests.Wipe s)

-- move: key, key, number
unfoldable pub move_at : Reader Request
move_at = do
  k ← key_at
  l ← key_at
  n ← number_at w64
  given (requests.Move k l n)

-- split: key
unfoldable pub split_at : Reader Request
split_at = do
  k ← key_at
  given (requests.Split k)

-- what stands behind a request's tag, which is 1 to 7
unfoldable pub request_of : Bool → ℕ → Reader Request
request_of texts tag = if tag == 1 then put_at texts
    else (if tag == 2 then add_at
    else (if tag == 3 then cput_at texts
    else (if tag == 4 then del_at
    else (if tag == 5 then wipe_at
    else (if tag == 6 then move_at
    else split_at)))))

-- a request
unfoldable pub request_at : Bool → Reader Request
request_at texts = do
  tag ← byte_in 1 7
  request_of texts tag

-- replies: an option, a number, nothing, a number, a range
unfoldable pub old_at : Bool → Reader Reply
old_at texts = do
  o ← option_at texts
  given (replies.Old o)

unfoldable pub now_at : Reader Reply
now_at = do
  n ← number_at w64
  given (replies.Now n)

unfoldable pub count_at : Reader Reply
count_at = do
  n ← number_at w64
  given (replies.Count n)

unfoldable pub range_at : Reader Reply
range_at = do
  r ← byte_in 0 7
  given (replies.Range r)

-- what stands behind a reply's tag, which is 1 to 5
unfoldable pub reply_of : Bool → ℕ → Reader Reply
reply_of texts tag = if tag == 1 then old_at texts
    else (if tag == 2 then now_at
    else (if tag == 3 then given replies.Set
    else (if tag == 4 then count_at
    else range_at)))

-- a reply
unfoldable pub reply_at : Bool → Reader Reply
reply_at texts = do
  tag ← byte_in 1 5
  reply_of texts tag

-- writes: key and value, or a key that is taken away
unfoldable pub set_at : Bool → Reader Op
set_at texts = do
  k ← key_at
  v ← value_at texts
  given (ops.Set k v)

unfoldable pub remove_at : Reader Op
remove_at = do
  k ← key_at
  given (ops.Remove k)

-- one write: its tag is 1 or 2
unfoldable pub op_at : Bool → Reader Op
op_at texts = do
  tag ← byte_in 1 2
  if tag == 1 then set_at texts else remove_at

-- so many writes
unfoldable pub ops_at : Bool → ℕ → Reader (List Op)
ops_at texts zero = given []
ops_at texts (suc n) = op_at texts >>= λ op. ops_at texts n >>= λ more. given (op ∷ more)

-- a batch: at most 16 writes
unfoldable pub batch_at : Bool → Reader (List Op)
batch_at texts = do
  count ← byte_in 0 16
  ops_at texts count

-- an attempt
unfoldable pub id_at : Reader CmdId
id_at = do
  client ← number_at w16
  seq ← number_at w32
  attempt ← number_at w16
  given (record { client = client; seq = seq; attempt = attempt })

-- a command
unfoldable pub command_at : Bool → Reader Command
command_at texts = do
  id ← id_at
  seq ← number_at w64
  max ← number_at w64
  request ← request_at texts
  reply ← reply_at texts
  batch ← batch_at texts
  given (record { id = id; request = request; batch = batch; reply = reply; seq = seq; max = max })

-- a lease ask: a node, 1 to 5, and two numbers
unfoldable pub ask_at : Reader LeaseAsk
ask_at = do
  holder ← byte_in 1 5
  prev ← number_at w64
  expires ← number_at w64
  given (record { holder = holder; prev = prev; expires = expires })

-- what stands behind a payload's tag, which is 0 to 2
unfoldable pub payload_of : Bool → ℕ → Reader Payload
payload_of texts tag = if tag == 0 then given payloads.Nothing
    else (if tag == 1 then (command_at texts >>= λ c. given (payloads.Write c))
    else (ask_at >>= λ a. given (payloads.Lease a)))

-- a payload's tag: 0 to 2; in version 2 a command's alone
unfoldable pub tag_at : Bool → Reader ℕ
tag_at true = byte_in 1 1
tag_at false = byte_in 0 2

-- what stands behind the version
unfoldable pub version_of : Bool → Reader Payload
version_of texts = do
  tag ← tag_at texts
  payload_of texts tag

-- a payload: the version, 1 or 2, a tag, and its fields
unfoldable pub payload_at : Reader Payload
payload_at = do
  version ← byte_in 1 2
  version_of (version == 2)

-- nothing stands behind what was read; else the place behind it is bad
abbrev pub ended : {A : Type 0} → Result (A × Left) BadField → Result A BadField
ended (Ok found) = if length found.1.bytes == 0 then Ok found.0 else bad found.1.place
ended (Err e) = Err e

-- the payload that all of the bytes say, by either version, or the bad field
unfoldable pub all_in : List ℕ → Result Payload BadField
all_in bytes = ended (payload_at (whole bytes))

-- version 2 spells what holds a text alone: else its version byte is bad
abbrev pub canonical : (texts : Bool) → Result Payload BadField → Result Payload BadField
canonical texts (Ok p) = if texts && not (payload_has_text p) then bad 0 else Ok p
canonical texts (Err e) = Err e

-- the payload whose spelling the bytes are, or the bad field
unfoldable pub payload_in : List ℕ → Result Payload BadField
payload_in bytes = canonical (begins_with 2 bytes) (all_in bytes)

-- a call answered what reading gives: the value, with the cursor behind it, or the bad field
abbrev pub Reads : {A : Type 0} → Result A BadField → Left → Result (A × Left) BadField → Type 0
Reads (Ok x) left read = read ≡ Ok (x, left)
Reads (Err e) left read = read ≡ Err e

-- the bad field that a fault names: none for want of memory
abbrev pub field_of : DecodeFault → Option BadField
field_of (faults.Bad place) = Some (record { place = place })
field_of faults.NoMemory = None

-- the same of a call that takes memory, which may be refused
abbrev pub Decodes : {A : Type 0} → Result A DecodeFault → Left → Result (A × Left) BadField → Type 0
Decodes result left read = Gives (λ x. (x, left)) field_of result read

-- a call answered this payload or bad field, but for want of memory
abbrev pub Decoded : Result Payload DecodeFault → Result Payload BadField → Type 0
Decoded result read = Gives (λ p. p) field_of result read
