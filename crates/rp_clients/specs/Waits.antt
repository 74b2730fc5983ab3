-- What a client hears while it waits (this project).
use Rattle.std.specs.Prelude.{◌≡◌, ℕ, ◌+◌, ◌<◌, Bool, true, false, List, [], ◌∷◌, Option, None, Some, IfSome, Result, Ok, Err}
use Rattle.std.specs.Option.{is_none}
use Rattle.rp_base.specs.declared.memory.NoMemory.{NoMemory}
use Rattle.rp_base.specs.declared.ids.CmdId.{CmdId}
use Rattle.rp_request.specs.declared.outcomes.Outcome.{Outcome}
use Rattle.rp_clients.specs.declared.waits.Heard.{Heard}
use Rattle.rp_clients.specs.declared.waits.Heard.TheVariants as heard
use Rattle.rp_clients.specs.Tries.{Try}
use Rattle.rp_clients.specs.Desks.{Standing, IsEnd}
use Rattle.rp_clients.specs.Courses.{AllEnded}

-- a look while no try is out: whether all is over, or memory was refused
abbrev pub after_look : Result Bool NoMemory → Standing → Standing
after_look (Ok false) s = s
after_look (Ok true) s = record s { is_over = true }
after_look (Err want) s = record s { is_short = true }

-- units were waited for, until all was over
abbrev pub after_units : ℕ → Result Bool NoMemory → Standing → Standing
after_units units (Ok false) s = record s { held = s.held + units }
after_units units (Ok true) s = record s { is_over = true }
after_units units (Err want) s = record s { is_short = true }

-- what was told of rounds may differ
abbrev pub SameButTold : (old new : Standing) → Type 0
SameButTold old new = new ≡ record old { told = new.told }

-- where the wait came to its end, the node has more rounds than the number that was kept for it
abbrev pub HasPassed : Result Bool NoMemory → Option ℕ → ℕ → Type 0
HasPassed (Ok false) last told = IfSome last (λ n. n < told)
HasPassed (Ok true) last told = Unit {0}
HasPassed (Err want) last told = Unit {0}

-- the latest try is this one, whose end is not known; the ends of all others are
abbrev pub Awaits : CmdId → List Try → Type 0
Awaits id [] = ⊥
Awaits id (t ∷ older) = (t.id ≡ id) × (t.end ≡ None) × AllEnded older

-- the latest try ended so
abbrev pub ended_latest : Outcome → List Try → List Try
ended_latest outcome [] = []
ended_latest outcome (t ∷ older) = (record t { end = Some outcome }) ∷ older

-- what was heard of the latest try, whose end was not known
abbrev pub after_hearing : Result Heard NoMemory → Standing → Standing
after_hearing (Ok heard.Nothing) s = s
after_hearing (Ok (heard.Ended outcome)) s = record s { tries = ended_latest outcome s.tries }
after_hearing (Ok heard.Over) s = record s { is_over = true }
after_hearing (Err want) s = record s { is_short = true }

abbrev pub HearsEnd : ℕ → Heard → Type 0
HearsEnd nodes heard.Nothing = Unit {0}
HearsEnd nodes (heard.Ended outcome) = IsEnd nodes outcome
HearsEnd nodes heard.Over = Unit {0}

-- the end of the latest try was waited for, until all was over
abbrev pub after_waiting : Result (Option Outcome) NoMemory → Standing → Standing
after_waiting (Ok (Some outcome)) s = record s { tries = ended_latest outcome s.tries }
after_waiting (Ok None) s = record s { is_over = true }
after_waiting (Err want) s = record s { is_short = true }

-- a try was made there, and ended so; where its end is not known, all is over
abbrev pub IsTried : (node range : ℕ) → CmdId → (old new : Standing) → Option Outcome → Type 0
IsTried node range id old new end = (rounds : ℕ) × (new ≡ record old {
  tries = (record { id = id; node = node; range = range; rounds = rounds; end = end }) ∷ old.tries;
  is_put = new.is_put;
  is_over = is_none end;
})
