-- Where reading stops: at the first field that is cut short or outside its form.
use Rattle.std.specs.Prelude.{◌≡◌, ℕ, ◌<◌, true, false, List, length, Option, Ok}
use Rattle.std.specs.Int.{Width}
use Rattle.rp_base.specs.declared.CmdId.{CmdId}
use Rattle.rp_base.specs.declared.KeySpan.{KeySpan}
use Rattle.rp_base.specs.declared.LeaseAsk.{LeaseAsk}
use Rattle.rp_base.specs.declared.Value.{Value}
use Rattle.rp_request.specs.Texts.{payload_has_text}
use Rattle.rp_request.specs.declared.Command.{Command}
use Rattle.rp_request.specs.declared.Op.{Op}
use Rattle.rp_request.specs.declared.Payload.{Payload}
use Rattle.rp_request.specs.declared.Reply.{Reply}
use Rattle.rp_request.specs.declared.Request.{Request}
use Rattle.rp_codec.specs.Cursors.{Left, whole}
use Rattle.rp_codec.specs.Reading.{Reader, bad, ◌>>=◌, byte_in, number_at, key_at, text_at, span_at, option_at, begins_with, payload_at}

-- what a form gives
pub data Form : Type 0 where
  number : Form
  text : Form
  value : Form
  option : Form
  span : Form
  request : Form
  reply : Form
  write : Form
  batch : Form
  attempt : Form
  command : Form
  ask : Form
  payload : Form

abbrev pub type_of : Form → Type 0
type_of number = ℕ
type_of text = List ℕ
type_of value = Value
type_of option = Option Value
type_of span = KeySpan
type_of request = Request
type_of reply = Reply
type_of write = Op
type_of batch = List Op
type_of attempt = CmdId
type_of command = Command
type_of ask = LeaseAsk
type_of payload = Payload

-- the fields: a byte of its own (version, tag, kind, option byte, count, node, range), a number, a length with its
-- bytes (key, text), a span, and version 1's option byte with its number
pub data IsField : (F : Form) → Reader (type_of F) → Type 0 where
  a_byte : (low high : ℕ) → IsField number (byte_in low high)
  a_number : (w : Width) → IsField number (number_at w)
  a_key : IsField number key_at
  a_text : IsField text text_at
  a_span : IsField span span_at
  an_option : IsField option (option_at false)

-- reading a form stops at a field that begins at the place: the form is that field, and it is not read here; or
-- reading stops in what is read first; or that is read, and reading stops in what is behind it
pub data StopsAt : (F : Form) → Reader (type_of F) → Left → ℕ → Type 0 where
  here : (F : Form) (p : Reader (type_of F)) (left : Left) → IsField F p → p left ≡ bad left.place → StopsAt F p left left.place
  first : (F G : Form) (p : Reader (type_of F)) (f : type_of F → Reader (type_of G)) (left : Left) (place : ℕ)
      → StopsAt F p left place → StopsAt G (p >>= f) left place
  behind : (F G : Form) (p : Reader (type_of F)) (f : type_of F → Reader (type_of G)) (left : Left) (x : type_of F) (after : Left) (place : ℕ)
      → p left ≡ Ok (x, after) → StopsAt G (f x) after place → StopsAt G (p >>= f) left place

-- the place is bad: a field begins there that is cut short or outside its form; or a payload ends there, and bytes
-- stand behind it; or version 2 spells a payload that holds no text
pub data IsBadPlace (bytes : List ℕ) : ℕ → Type 0 where
  field : (place : ℕ) → StopsAt payload payload_at (whole bytes) place → IsBadPlace bytes place
  end : (p : Payload) (after : Left) → payload_at (whole bytes) ≡ Ok (p, after) → 0 < length after.bytes → IsBadPlace bytes after.place
  textless : (p : Payload) (after : Left) → payload_at (whole bytes) ≡ Ok (p, after) → length after.bytes ≡ 0
      → begins_with 2 bytes ≡ true → payload_has_text p ≡ false → IsBadPlace bytes 0
