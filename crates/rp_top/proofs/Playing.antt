-- The lines of a script, played one after another.
use Rattle.std.proofs.Common.{◌≡◌, ℕ, suc, ◌+◌, ◌<◌, ◌≤◌, false, List, [], ◌∷◌, ◌++◌, length, take, drop, Some, Ok, Err, refl, ap, ◌∙◌, sym, subst, arith, length-append, append_assoc}
use Rattle.std.proofs.lemmas.List.{take-append-drop}
use Rattle.std.proofs.Math.Seq.{take-suc}
use Rattle.std.specs.Prelude.{get_or}
use Rattle.rp_script.specs.Bounds.{IsFirst, IsFromTo, AllFollow, IsScript}
use Rattle.rp_script.specs.Seen.{Seen, unseen, after}
use Rattle.rp_script.specs.declared.lines.NumberedLine.{NumberedLine}
use Rattle.rp_script.specs.declared.lines.ScriptLine.{ScriptLine}
use Rattle.rp_script.specs.declared.lines.ScriptLine.TheVariants as lines
use Rattle.rp_lines.specs.Players.{Limit, Player, Played, first_player, and_then}
use Rattle.rp_lines.specs.Scripts.{played, played_all}
use Rattle.rp_base.specs.Gives.{Fails}
use Rattle.rp_events.specs.Lawful.{IsReached}
use Rattle.rp_lawful.specs.Playable.{CanPlay, IsFront, cluster_at}
use Rattle.rp_lawful.proofs.Playing.{can_size, script_reached, script_sound}
use Rattle.rp_top.specs.Gives.{fault_of, stop_by}
use Rattle.rp_racelines.specs.Rules.{nodes_in}
use Rattle.rp_top.specs.Scripts.{behind_first, by_play, play_of}
use Rattle.rp_world.specs.Plays.{limit_of}
use Rattle.rp_world.specs.declared.faults.PlayFault.{PlayFault}
use Rattle.rp_world.specs.declared.faults.PlayFault.TheVariants as plays

same_then : (r : Played) (f g : Player → Played) → ((p : Player) → f p ≡ g p) → and_then r f ≡ and_then r g
same_then (Ok p) f g h = h p
same_then (Err limit) f g h = refl

then_then : (r : Played) (f g : Player → Played) → and_then r (λ p. and_then (f p) g) ≡ and_then (and_then r f) g
then_then (Ok p) f g = refl
then_then (Err limit) f g = refl

-- lines behind lines
pub played_more : (p : Player) (xs ys : List NumberedLine)
    → played_all p (xs ++ ys) ≡ and_then (played_all p xs) (λ q. played_all q ys)
played_more p [] ys = refl
played_more p (x ∷ xs) ys =
    same_then (played x.number x.line p) _ _ (λ q. played_more q xs ys)
    ∙ then_then (played x.number x.line p) (λ q. played_all q xs) (λ q. played_all q ys)

one_more : (p q : Player) (xs : List NumberedLine) (x : NumberedLine) → played_all p xs ≡ Ok q
    → played_all p (xs ++ x ∷ []) ≡ and_then (played x.number x.line q) (λ r. Ok r)
one_more p q xs x h = played_more p xs (x ∷ []) ∙ ap (λ r. and_then r (λ v. played_all v (x ∷ []))) h

-- the next line, which leads on
pub leads_further : (p q r : Player) (xs : List NumberedLine) (x : NumberedLine) → played_all p xs ≡ Ok q
    → played x.number x.line q ≡ Ok r → played_all p (xs ++ x ∷ []) ≡ Ok r
leads_further p q r xs x led next = one_more p q xs x led ∙ ap (λ v. and_then v (λ r. Ok r)) next

-- the line at which playing ends
pub ends_there : (p q : Player) (xs ys : List NumberedLine) (x : NumberedLine) (limit : Limit)
    → played_all p xs ≡ Ok q → played x.number x.line q ≡ Err limit → played_all p (xs ++ x ∷ ys) ≡ Err limit
ends_there p q xs ys x limit led ends =
    played_more p xs (x ∷ ys) ∙ ap (λ r. and_then r (λ v. played_all v (x ∷ ys))) led
    ∙ ap (λ r. and_then r (λ v. played_all v ys)) ends

follow_front : (s : Seen) (xs ys : List NumberedLine) → AllFollow s (xs ++ ys) → AllFollow s xs
follow_front s [] ys h = tt
follow_front s (x ∷ xs) ys h = (h.0, follow_front (after s (Some x.line)) xs ys h.1)

-- the front of lines that are the front of a script
pub front_of_front : (nodes : ℕ) (xs ys : List NumberedLine) → IsFront nodes (xs ++ ys) → IsFront nodes xs
front_of_front nodes xs ys h = record {
  number = h.number;
  follow = follow_front (unseen false) (cluster_at h.number nodes ∷ xs) ys h.follow;
  few = omega (arith, h.few, length-append xs ys);
}

-- a script begins with its cluster line, and the others are its front
named : (l : ScriptLine) → IsFirst l → (n : ℕ) × (l ≡ lines.Cluster n) × IsFromTo 1 5 n
named (lines.Cluster n) h = (n, refl, h)
named line h = absurd h

pub front_of : (ls : List NumberedLine) → IsScript ls → length ls ≤ 65536
    → (n : ℕ) × (number : ℕ) × (rest : List NumberedLine) × (ls ≡ cluster_at number n ∷ rest) × IsFromTo 1 5 n × IsFront n rest
front_of [] script few = absurd (cc)
front_of (l ∷ ls) script few =
    let first = named l.line script.follow.0 in
    let same : l ≡ cluster_at l.number first.0 = ap (λ line. record { number = l.number; line = line }) first.1 in (
      first.0,
      l.number,
      ls,
      ap (λ x. x ∷ ls) same,
      first.2,
      record {
        number = l.number;
        follow = subst (λ (x : NumberedLine). AllFollow (unseen false) (x ∷ ls)) same script.follow;
        few = omega (arith, few);
      },
    )

-- the next of these lines may be played where those before it led here
pub next_may_be_played : (nodes : ℕ) (ls : List NumberedLine) (i : ℕ) (d : NumberedLine) (p : Player) → IsFront nodes ls → i < length ls
    → played_all (first_player nodes) (take i ls) ≡ Ok p → CanPlay nodes p (get_or ls i d)
next_may_be_played nodes ls i d p front within led = record {
  lines = take i ls;
  played = led;
  front = subst (λ (xs : List NumberedLine). IsFront nodes xs) (take-suc ls i d within)
      (front_of_front nodes (take (suc i) ls) (drop (suc i) ls)
      (subst (λ (xs : List NumberedLine). IsFront nodes xs) (sym (take-append-drop (suc i) ls)) front));
}

-- and leads on
pub led_further : (ls : List NumberedLine) (i : ℕ) (d : NumberedLine) (p q r : Player) → i < length ls → played_all p (take i ls) ≡ Ok q
    → played (get_or ls i d).number (get_or ls i d).line q ≡ Ok r → played_all p (take (suc i) ls) ≡ Ok r
led_further ls i d p q r within led next =
    ap (played_all p) (take-suc ls i d within) ∙ leads_further p q r (take i ls) (get_or ls i d) led next

-- the same of an item of a loop
item_is : (ls : List NumberedLine) (i : ℕ) (l : NumberedLine) → i < length ls → l ≡ get_or ls i l → take (suc i) ls ≡ take i ls ++ l ∷ []
item_is ls i l within is = take-suc ls i l within ∙ ap (λ x. take i ls ++ x ∷ []) (sym is)

pub item_may_be_played : (nodes : ℕ) (ls : List NumberedLine) (i : ℕ) (l : NumberedLine) (p : Player) → IsFront nodes ls → i < length ls → l ≡ get_or ls i l
    → played_all (first_player nodes) (take i ls) ≡ Ok p → CanPlay (length p.world.nodes) p l
item_may_be_played nodes ls i l p front within is led =
    let can : CanPlay nodes p l = subst (λ (x : NumberedLine). CanPlay nodes p x) (sym is) (next_may_be_played nodes ls i l p front within led) in
    subst (λ (n : ℕ). CanPlay n p l) (sym (can_size nodes p l can)) can

pub item_leads_on : (nodes : ℕ) (ls : List NumberedLine) (i : ℕ) (l : NumberedLine) (p q : Player) → i < length ls → l ≡ get_or ls i l
    → played_all (first_player nodes) (take i ls) ≡ Ok p → played l.number l.line p ≡ Ok q → played_all (first_player nodes) (take (i + 1) ls) ≡ Ok q
item_leads_on nodes ls i l p q within is led next =
    let next_index : i + 1 ≡ suc i = omega arith in
    ap (played_all (first_player nodes)) (ap (λ n. take n ls) next_index ∙ item_is ls i l within is) ∙ leads_further (first_player nodes) p q (take i ls) l led next

-- the item at which a play ends
pub item_ends : (nodes : ℕ) (ls : List NumberedLine) (i : ℕ) (l : NumberedLine) (p : Player) (fault : PlayFault) → i < length ls → l ≡ get_or ls i l
    → played_all (first_player nodes) (take i ls) ≡ Ok p → Fails (limit_of fault) (played l.number l.line p) → Fails (limit_of fault) (played_all (first_player nodes) ls)
item_ends nodes ls i l p (plays.Limit which count) within is led ends =
    ap (played_all (first_player nodes)) whole
    ∙ ends_there (first_player nodes) p (take i ls) (drop (suc i) ls) l (record { which = which; count = count }) led ends
  where
    whole : ls ≡ take i ls ++ l ∷ drop (suc i) ls
    whole = sym (take-append-drop (suc i) ls) ∙ ap (λ xs. xs ++ drop (suc i) ls) (item_is ls i l within is) ∙ append_assoc (take i ls) (l ∷ []) (drop (suc i) ls)
item_ends nodes ls i l p plays.NoMemory within is led ends = tt

-- a script from its cluster line on
pub front_is : (ls : List NumberedLine) → IsScript ls → length ls ≤ 65536 → (nodes_in ls ≤ 5) × IsFront (nodes_in ls) (behind_first ls)
front_is ls script few =
    let f = front_of ls script few in
    subst (λ (xs : List NumberedLine). (nodes_in xs ≤ 5) × IsFront (nodes_in xs) (behind_first xs)) (sym f.3) (f.4.1, f.5)

pub plays_its_front : (ls : List NumberedLine) → IsScript ls → length ls ≤ 65536 → play_of ls ≡ played_all (first_player (nodes_in ls)) (behind_first ls)
plays_its_front ls script few =
    let f = front_of ls script few in
    subst (λ (xs : List NumberedLine). play_of xs ≡ played_all (first_player (nodes_in xs)) (behind_first xs)) (sym f.3) refl

-- the world behind a script
pub ends_reached : (ls : List NumberedLine) (p : Player) → IsScript ls → length ls ≤ 65536 → played_all (first_player (nodes_in ls)) (behind_first ls) ≡ Ok p
    → IsReached (nodes_in ls) p.world.nodes × IsReached (length p.world.nodes) p.world.nodes
ends_reached ls p script few ok =
    let front = (front_is ls script few).1 in
    (script_reached (nodes_in ls) (behind_first ls) front p ok, (script_sound (nodes_in ls) (behind_first ls) front p ok).reached)

-- a play that stopped, as the bytes' run
pub stopped_play : (ls : List NumberedLine) (fault : PlayFault) → IsScript ls → length ls ≤ 65536
    → Fails (limit_of fault) (played_all (first_player (nodes_in ls)) (behind_first ls)) → Fails (fault_of (stop_by fault)) (by_play (play_of ls))
stopped_play ls (plays.Limit which count) script few ends = ap by_play (plays_its_front ls script few ∙ ends)
stopped_play ls plays.NoMemory script few ends = tt
