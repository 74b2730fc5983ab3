-- The words of a request, from word 5 of a line on.
use Rattle.std.specs.Prelude.{[], ◌∷◌}
use Rattle.rp_request.specs.declared.Request.{Request}
use Rattle.rp_request.specs.declared.Request.TheVariants as forms
use Rattle.rp_script.specs.Keywords.{request_word_of}
use Rattle.rp_script.specs.Readers.{Reader, bad, ◌>>=◌, whole, any_number_at, value_at, key_at, expect_at, span_at}
use Rattle.rp_script.specs.declared.faults.LineKind.TheVariants as kinds
use Rattle.rp_script.specs.declared.keywords.RequestWord.{RequestWord}
use Rattle.rp_script.specs.declared.keywords.RequestWord.TheVariants as words

-- `put K V`
unfoldable pub put : Reader Request
put = do
  key ← key_at 6
  value ← value_at 7
  whole 8 (forms.Put key value)

-- `add K D`
unfoldable pub add : Reader Request
add = do
  key ← key_at 6
  by ← any_number_at 7
  whole 8 (forms.Add key by)

-- `cput K E V`
unfoldable pub cput : Reader Request
cput = do
  key ← key_at 6
  expect ← expect_at 7
  value ← value_at 8
  whole 9 (forms.CPut key expect value)

-- `del K`
unfoldable pub del : Reader Request
del = do
  key ← key_at 6
  whole 7 (forms.Del key)

-- `wipe A B`
unfoldable pub wipe : Reader Request
wipe = do
  start ← key_at 6
  span ← span_at 7 start
  whole 8 (forms.Wipe span)

-- `move A B D`
unfoldable pub moving : Reader Request
moving = do
  from ← key_at 6
  to ← key_at 7
  by ← any_number_at 8
  whole 9 (forms.Move from to by)

-- `split K`
unfoldable pub split : Reader Request
split = do
  key ← key_at 6
  whole 7 (forms.Split key)

-- the words behind the first one of a request
unfoldable pub request_of : RequestWord → Reader Request
request_of words.Put = put
request_of words.Add = add
request_of words.CPut = cput
request_of words.Del = del
request_of words.Wipe = wipe
request_of words.Move = moving
request_of words.Split = split
request_of words.Unknown = λ rest. bad 5 kinds.UnknownWord

-- a request
unfoldable pub request : Reader Request
request [] = bad 5 kinds.MissingWord
request (word ∷ rest) = request_of (request_word_of word) rest
