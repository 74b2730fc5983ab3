-- How a record is read from its text.
use Rattle.std.specs.Prelude.{◌≡◌, ℕ, ◌-◌, ◌^◌, ◌&&◌, Bool, true, false, if◌then◌else◌, List, [], ◌∷◌, Option, None, Some, codes}
use Rattle.std.specs.Str.{bytes_eq}
use Rattle.rp_base.specs.declared.Lease.{Lease}
use Rattle.rp_request.specs.Words.{pieces}
use Rattle.rp_request.specs.declared.items.Place.{Place}
use Rattle.rp_request.specs.declared.items.Place.TheVariants as places
use Rattle.rp_request.specs.declared.items.Record.{Record}
use Rattle.rp_request.specs.declared.items.Record.TheVariants.{Took, Passed}
use Rattle.rp_request.specs.declared.items.Why.{Why}
use Rattle.rp_request.specs.declared.items.Why.TheVariants.{Nothing, OldLease, OldIndex, LeaseMoved}
use Rattle.rp_reread.specs.Readers.{Reader, ◌>>=◌, given, refused, all_read, word_at, just, key_at, number_at, any_number_at, node_at, attempt_at}
use Rattle.rp_reread.specs.Requests.{request_at, reply_at}

-- three numbers of a lease
unfoldable pub lease_at : Reader Lease
lease_at = do
  holder ← node_at
  seq ← any_number_at
  expires ← any_number_at
  given (record { holder = holder; seq = seq; expires = expires })

unfoldable pub write_at : Reader Place
write_at = do
  id ← attempt_at
  request ← request_at
  under ← just (codes "under")
  seq ← any_number_at
  ok ← just (codes "ok")
  reply ← reply_at
  given (places.Write id request seq reply)

unfoldable pub split_at : Reader Place
split_at = do
  id ← attempt_at
  key ← key_at
  is_right ← just (codes "right")
  right ← number_at 7
  under ← just (codes "under")
  seq ← any_number_at
  given (places.Split id key right seq)

-- why an entry was passed over
unfoldable pub why_by : List ℕ → Reader Why
why_by word = if bytes_eq word (codes "nothing") then given Nothing
    else (if bytes_eq word (codes "old-lease") then given OldLease
    else (if bytes_eq word (codes "old-index") then given OldIndex
    else (if bytes_eq word (codes "lease-moved") then given LeaseMoved
    else refused)))

unfoldable pub passed_at : Reader Record
passed_at = do
  word ← word_at
  why ← why_by word
  given (Passed why)

unfoldable pub written : Reader Record
written = do
  item ← write_at
  given (Took item)

unfoldable pub parted : Reader Record
parted = do
  item ← split_at
  given (Took item)

unfoldable pub leased : Reader Record
leased = do
  lease ← lease_at
  given (Took (places.Lease lease))

-- a record, by its first word
unfoldable pub record_by : List ℕ → Reader Record
record_by word = if bytes_eq word (codes "write") then written
    else (if bytes_eq word (codes "split") then parted
    else (if bytes_eq word (codes "lease") then leased
    else (if bytes_eq word (codes "pass") then passed_at
    else refused)))

unfoldable pub record_at : Reader Record
record_at = do
  word ← word_at
  record_by word

-- the record that a text spells; the number of its reply may count anything
unfoldable pub record_of : List ℕ → Option Record
record_of text = all_read (record_at (pieces text))
