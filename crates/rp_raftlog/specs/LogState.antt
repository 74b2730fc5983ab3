-- What contracts see of a log: a base and the entries after it.
use Rattle.std.specs.Prelude.{ℕ, suc, ◌+◌, ◌-◌, max, Bool, true, false, Option, Some, None, List, [], ◌∷◌, ◌++◌, length, take, drop, slice_get, unwrap_or, nat_lt, ◌==◌, if◌then◌else◌}
use Rattle.std.specs.Option.{option_map, option_map_or}
use Rattle.rp_raftlog.specs.declared.entries.Entry.{Entry}

-- the index and the term of the base, and the entries with the indexes base + 1, base + 2, ..
pub record LogState : Type 0 where
  pub base : ℕ
  pub base_term : ℕ
  pub entries : List Entry

-- a log that holds nothing after this index, of this term
abbrev pub log_at : ℕ → ℕ → LogState
log_at index term = record { base = index; base_term = term; entries = [] }

-- the index of the last entry, or the base's
abbrev pub last_index : LogState → ℕ
last_index log = log.base + length log.entries

-- the entry with this index, if the log holds it
abbrev pub entry_at : LogState → ℕ → Option Entry
entry_at log index = if nat_lt log.base index then slice_get log.entries (index - log.base - 1) else None

-- the term at this index: none below the base or past the last
abbrev pub term_at : LogState → ℕ → Option ℕ
term_at log index = if log.base == index then Some log.base_term else option_map (λ e. e.term) (entry_at log index)

-- the term of the last entry, or the base's
abbrev pub last_term : LogState → ℕ
last_term log = unwrap_or (term_at log (last_index log)) 0

-- at most so many entries from this index on
abbrev pub suffix : LogState → ℕ → ℕ → List Entry
suffix log from most = take most (drop (from - log.base - 1) log.entries)

-- with these entries behind its own
abbrev pub appended : LogState → List Entry → LogState
appended log more = record log { entries = log.entries ++ more }

-- how many entries from the front have the same terms in both lists
abbrev pub same_terms : List Entry → List Entry → ℕ
same_terms [] ys = 0
same_terms (x ∷ xs) [] = 0
same_terms (x ∷ xs) (y ∷ ys) = if x.term == y.term then suc (same_terms xs ys) else 0

-- what an edit of a list does: its first entries stay, and others come behind them
pub record Edit : Type 0 where
  pub keep : ℕ
  pub added : List Entry

-- the list after the edit
abbrev pub edited : List Entry → Edit → List Entry
edited entries edit = take edit.keep entries ++ edit.added

-- how entries that begin at this place are put over a list: the first that differs in term cuts the list there
abbrev pub overlay : List Entry → ℕ → List Entry → Edit
overlay entries place news =
    let same = same_terms news (drop place entries) in
    if same == length news
    then record { keep = length entries; added = [] }
    else record { keep = place + same; added = drop same news }

-- how entries after a previous index are accepted: those at or below the base are skipped
abbrev pub accepting : LogState → ℕ → List Entry → Edit
accepting log prev_index news = overlay log.entries (prev_index - log.base) (drop (log.base - prev_index) news)

-- the log after that
abbrev pub accepted : LogState → ℕ → List Entry → LogState
accepted log prev_index news = record log { entries = edited log.entries (accepting log prev_index news) }

-- the index up to which an accepted log is as the sender's
abbrev pub accepted_to : LogState → ℕ → List Entry → ℕ
accepted_to log prev_index news = max (prev_index + length news) log.base

-- whether the log has this term at this index
abbrev pub has_term : LogState → ℕ → ℕ → Bool
has_term log index term = option_map_or (λ t. t == term) (term_at log index) false

-- whether entries after this index and term may be accepted: the index lies below the base, or the log has the term there
abbrev pub matches : LogState → ℕ → ℕ → Bool
matches log prev_index prev_term = if nat_lt prev_index log.base then true else has_term log prev_index prev_term

-- the log with the entries up to this index cut away
abbrev pub cut : LogState → ℕ → LogState
cut log to = record { base = to; base_term = unwrap_or (term_at log to) 0; entries = drop (to - log.base) log.entries }
