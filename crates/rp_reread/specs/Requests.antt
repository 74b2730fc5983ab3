-- How a request and a reply are read.
use Rattle.std.specs.Prelude.{◌≡◌, ℕ, ◌-◌, ◌^◌, if◌then◌else◌, List, Option, None, Some, codes}
use Rattle.std.specs.Str.{bytes_eq}
use Rattle.rp_base.specs.Spans.{key_span_of}
use Rattle.rp_base.specs.declared.KeySpan.{KeySpan}
use Rattle.rp_base.specs.declared.Value.{Value}
use Rattle.rp_base.specs.declared.Value.TheVariants.{Number, Text}
use Rattle.rp_request.specs.declared.Reply.{Reply}
use Rattle.rp_request.specs.declared.Reply.TheVariants.{Old, Now, Set, Range}
use Rattle.rp_request.specs.declared.Request.{Request}
use Rattle.rp_request.specs.declared.Request.TheVariants.{Put, Add, CPut, Del, Wipe, Move, Split}
use Rattle.rp_reread.specs.Readers.{Reader, ◌>>=◌, given, refused, told, word_at, key_in, key_at, value_in, value_at, option_at, number_at, any_number_at}

unfoldable pub put : Reader Request
put = do
  key ← key_at
  value ← value_at
  given (Put key value)

unfoldable pub add : Reader Request
add = do
  key ← key_at
  by ← any_number_at
  given (Add key by)

unfoldable pub cput : Reader Request
cput = do
  key ← key_at
  expect ← option_at
  value ← value_at
  given (CPut key expect value)

unfoldable pub del : Reader Request
del = do
  key ← key_at
  given (Del key)

-- the end of a span: `~`, or a key
abbrev pub some_key : Option ℕ → Option (Option ℕ)
some_key (Some key) = Some (Some key)
some_key None = None

unfoldable pub end_in : List ℕ → Option (Option ℕ)
end_in word = if bytes_eq word (codes "~") then Some None else some_key (key_in word)

unfoldable pub wipe : Reader Request
wipe = do
  start ← key_at
  word ← word_at
  end ← told (end_in word)
  span ← told (key_span_of start end)
  given (Wipe span)

unfoldable pub moving : Reader Request
moving = do
  from ← key_at
  to ← key_at
  by ← any_number_at
  given (Move from to by)

unfoldable pub split : Reader Request
split = do
  key ← key_at
  given (Split key)

-- a request, by its first word
unfoldable pub request_by : List ℕ → Reader Request
request_by word = if bytes_eq word (codes "put") then put
    else (if bytes_eq word (codes "add") then add
    else (if bytes_eq word (codes "cput") then cput
    else (if bytes_eq word (codes "del") then del
    else (if bytes_eq word (codes "wipe") then wipe
    else (if bytes_eq word (codes "move") then moving
    else (if bytes_eq word (codes "split") then split
    else refused))))))

unfoldable pub request_at : Reader Request
request_at = do
  word ← word_at
  request_by word

-- a number or a text that a reply gives: what the number counts is not told
abbrev pub value_reply : Value → Reply
value_reply (Number n) = Now n
value_reply (Text text) = Old (Some (Text text))

unfoldable pub range_reply : Reader Reply
range_reply = do
  right ← number_at 7
  given (Range right)

unfoldable pub plain_reply : List ℕ → Reader Reply
plain_reply word = do
  value ← told (value_in word)
  given (value_reply value)

-- a reply
unfoldable pub reply_by : List ℕ → Reader Reply
reply_by word = if bytes_eq word (codes "none") then given (Old None)
    else (if bytes_eq word (codes "set") then given Set
    else (if bytes_eq word (codes "range") then range_reply
    else plain_reply word))

unfoldable pub reply_at : Reader Reply
reply_at = do
  word ← word_at
  reply_by word
