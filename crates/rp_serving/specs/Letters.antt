-- Which messages of a node's sent list are copied for another one (this project): those that go to it and are not lost,
-- each with its number.
use Rattle.std.specs.Prelude.{◌≡◌, ◌≢◌, ℕ, ◌+◌, ◌≤◌, if◌then◌else◌, List, [], ◌∷◌, ◌++◌, length, take, drop, map}
use Rattle.rp_request.specs.Applied.{AppliedState}
use Rattle.rp_events.specs.declared.parcels.Parcel.{Parcel}
use Rattle.rp_events.specs.Nodes.{Node}
use Rattle.rp_race.specs.declared.rules.RaceRules.{RaceRules}
use Rattle.rp_race.specs.Owed.{heard_from, is_carried}
use Rattle.rp_serving.specs.declared.letters.Letter.{Letter}

-- those of these messages, the first of which has this number
abbrev pub letters_behind : RaceRules → (from to number : ℕ) → List (Parcel AppliedState) → List Letter
letters_behind rules from to number [] = []
letters_behind rules from to number (p ∷ ps) =
    if is_carried rules from to number p
    then record { number = number; parcel = p } ∷ letters_behind rules from to (number + 1) ps
    else letters_behind rules from to (number + 1) ps

-- those of all that a sender has sent
abbrev pub letters_of : RaceRules → (from to : ℕ) → List (Parcel AppliedState) → List Letter
letters_of rules from to sent = letters_behind rules from to 1 sent

-- their numbers
abbrev pub numbers : List Letter → List ℕ
numbers letters = map (λ l. l.number) letters

-- what is left to deliver of these to a node: what is behind those that it has heard
pub record AreLeft (from : ℕ) (n : Node) (letters all : List Letter) : Type 0 where
  pub are : letters ≡ drop (length (heard_from from n.journal)) all
  pub heard : heard_from from n.journal ≡ numbers (take (length (heard_from from n.journal)) all)
