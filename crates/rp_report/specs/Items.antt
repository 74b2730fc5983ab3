-- The text of requests, replies and applied items.
use Rattle.std.specs.Prelude.{ℕ, List, ◌++◌, Option, Some, None, codes}
use Rattle.std.specs.Fmt.{decimal}
use Rattle.rp_base.specs.Keys.{key_text}
use Rattle.rp_base.specs.declared.CmdId.{CmdId}
use Rattle.rp_request.specs.declared.requests.Request.{Request}
use Rattle.rp_request.specs.declared.requests.Request.TheVariants as requests
use Rattle.rp_request.specs.declared.outcomes.Reply.{Reply}
use Rattle.rp_request.specs.declared.outcomes.Reply.TheVariants.{Old, Now, Set, Count, Range}
use Rattle.rp_request.specs.declared.items.Place.{Place}
use Rattle.rp_request.specs.declared.items.Place.TheVariants as places
use Rattle.rp_request.specs.declared.items.Why.{Why}
use Rattle.rp_request.specs.declared.items.Why.TheVariants.{Nothing, OldLease, OldIndex, LeaseMoved}
use Rattle.rp_request.specs.declared.items.Record.{Record}
use Rattle.rp_request.specs.declared.items.Record.TheVariants.{Took, Passed}
use Rattle.rp_report.specs.Words.{newline, spaced, spaced_key, spaced_value, value_or_none, attempt_text, lease_text}

-- where a span of keys ends
abbrev pub span_end_text : Option ℕ → List ℕ
span_end_text None = codes " ~"
span_end_text (Some key) = spaced_key key

-- a request, as a script spells it
abbrev pub request_text : Request → List ℕ
request_text (requests.Put key value) = codes "put " ++ key_text key ++ spaced_value value
request_text (requests.Add key by) = codes "add " ++ key_text key ++ spaced by
request_text (requests.CPut key expect value) =
    codes "cput " ++ key_text key ++ codes " " ++ value_or_none expect ++ spaced_value value
request_text (requests.Del key) = codes "del " ++ key_text key
request_text (requests.Wipe span) = codes "wipe " ++ key_text span.start ++ span_end_text span.end
request_text (requests.Move from to by) =
    codes "move " ++ key_text from ++ spaced_key to ++ spaced by
request_text (requests.Split key) = codes "split " ++ key_text key

-- a reply
abbrev pub reply_text : Reply → List ℕ
reply_text (Old value) = value_or_none value
reply_text (Now value) = decimal value
reply_text Set = codes "set"
reply_text (Count count) = decimal count
reply_text (Range right) = codes "range" ++ spaced right

-- what took effect: the attempt and the request
abbrev pub did_text : CmdId → Request → List ℕ
did_text id request = attempt_text id ++ codes " " ++ request_text request

-- an applied item
abbrev pub item_text : Place → List ℕ
item_text (places.Write id request seq reply) =
    codes "write " ++ did_text id request ++ codes " under" ++ spaced seq
    ++ codes " ok " ++ reply_text reply
item_text (places.Split id key right seq) =
    codes "split " ++ attempt_text id ++ spaced_key key ++ codes " right" ++ spaced right
    ++ codes " under" ++ spaced seq
item_text (places.Lease lease) = codes "lease " ++ lease_text lease

-- why an entry was passed over
abbrev pub why_text : Why → List ℕ
why_text Nothing = codes "nothing"
why_text OldLease = codes "old-lease"
why_text OldIndex = codes "old-index"
why_text LeaseMoved = codes "lease-moved"

-- the line of the record at an index
abbrev pub record_line : ℕ → Record → List ℕ
record_line index (Took item) =
    codes "place" ++ spaced index ++ codes " " ++ item_text item ++ newline
record_line index (Passed why) =
    codes "pass" ++ spaced index ++ codes " " ++ why_text why ++ newline
