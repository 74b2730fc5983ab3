-- What an end that is learnt changes (this project).
use Rattle.std.proofs.Common.{◌≡◌, Bool, true, false, if◌then◌else◌, List, [], ◌∷◌, Option, None, Some, refl, sym, ap, ap₂, ◌∙◌}
use Rattle.std.specs.Prelude.{IsSome}
use Rattle.std.proofs.lemmas.List.Elements.{All-head, All-tail}
use Rattle.rp_base.specs.declared.ids.CmdId.{CmdId}
use Rattle.rp_base.specs.Ids.{same_id}
use Rattle.rp_base.proofs.IdLaws.{equal_same, apart_not_same, not_same_apart}
use Rattle.rp_request.specs.declared.outcomes.Outcome.{Outcome}
use Rattle.rp_clients.specs.Tries.{Try, learns, ended_so}
use Rattle.rp_clients.specs.Desks.{Standing}
use Rattle.rp_clients.specs.Courses.{AllEnded}
use Rattle.rp_clients.specs.Waits.{Awaits, ended_latest}

abbrev pub has_end : Try → Type 0
has_end t = IsSome t.end

-- a known end stays
pub known_stays : (id : CmdId) (outcome : Outcome) (t : Try) (end : Option Outcome) → IsSome end
    → ended_so id outcome t end ≡ t
known_stays id outcome t None h = absurd cc
known_stays id outcome t (Some known) h = refl

pub nothing_to_learn : (id : CmdId) (outcome : Outcome) (tries : List Try) → AllEnded tries
    → learns id outcome tries ≡ tries
nothing_to_learn id outcome [] h = refl
nothing_to_learn id outcome (t ∷ older) h =
    ap₂ (λ (x : Try) (xs : List Try). x ∷ xs) (known_stays id outcome t t.end (All-head has_end t older h)) (nothing_to_learn id outcome older (All-tail has_end t older h))

-- where all ends are known, a desk that tells of one stays as it is
pub learnt_nothing : (id : CmdId) (outcome : Outcome) (s : Standing) → AllEnded s.tries
    → record s { tries = learns id outcome s.tries } ≡ s
learnt_nothing id outcome s h = ap (λ (tries : List Try). record s { tries = tries }) (nothing_to_learn id outcome s.tries h)

-- an end that is told of the try that is out is learnt
ended_here : (id : CmdId) (outcome : Outcome) (t : Try) (end : Option Outcome) → end ≡ None → same_id t.id id ≡ true
    → ended_so id outcome t end ≡ record t { end = Some outcome }
ended_here id outcome t None n h = ap (λ (b : Bool). if b then record t { end = Some outcome } else t) h
ended_here id outcome t (Some known) n h = absurd cc

ended_elsewhere : (id : CmdId) (outcome : Outcome) (t : Try) (end : Option Outcome) → same_id t.id id ≡ false
    → ended_so id outcome t end ≡ t
ended_elsewhere id outcome t None h = ap (λ (b : Bool). if b then record t { end = Some outcome } else t) h
ended_elsewhere id outcome t (Some known) h = refl

latest_learnt : (id : CmdId) (outcome : Outcome) (tries : List Try) → Awaits id tries
    → learns id outcome tries ≡ ended_latest outcome tries
latest_learnt id outcome [] h = absurd h
latest_learnt id outcome (t ∷ older) h =
    ap₂ (λ (x : Try) (xs : List Try). x ∷ xs) (ended_here id outcome t t.end h.1 (equal_same t.id id h.0)) (nothing_to_learn id outcome older h.2)

other_learnt : (id other : CmdId) (outcome : Outcome) (tries : List Try) → Awaits id tries → same_id other id ≡ false
    → learns other outcome tries ≡ tries
other_learnt id other outcome [] h e = absurd h
other_learnt id other outcome (t ∷ older) h e =
    ap₂ (λ (x : Try) (xs : List Try). x ∷ xs)
    (ended_elsewhere other outcome t t.end (apart_not_same t.id other (λ same. not_same_apart other id e (sym same ∙ h.0))))
    (nothing_to_learn other outcome older h.2)

pub hears_it : (id other : CmdId) (outcome : Outcome) (s : Standing) → Awaits id s.tries → other ≡ id
    → record s { tries = learns other outcome s.tries } ≡ record s { tries = ended_latest outcome s.tries }
hears_it id other outcome s h e =
    ap (λ (tries : List Try). record s { tries = tries })
    (ap (λ (x : CmdId). learns x outcome s.tries) e ∙ latest_learnt id outcome s.tries h)

pub hears_nothing : (id other : CmdId) (outcome : Outcome) (s : Standing) → Awaits id s.tries → same_id other id ≡ false
    → record s { tries = learns other outcome s.tries } ≡ s
hears_nothing id other outcome s h e =
    ap (λ (tries : List Try). record s { tries = tries }) (other_learnt id other outcome s.tries h e)
