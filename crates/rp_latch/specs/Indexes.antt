-- How holds are kept: numbered by age, with their spans and their ids in order beside them.
use Rattle.std.specs.Prelude.{ℕ, ◌<◌, ◌≤◌, ◌≡◌, Bool, false, ◌&&◌, ◌==◌, nat_lt, min, List, Option, None, Some, IsTrue, IsFalse}
use Rattle.std.specs.List.{AllPairs, list_any, count_by}
use Rattle.std.specs.Ordering.{nat_cmp, ordering_then, is_lt}
use Rattle.std.specs.declared.cmp.Ordering.{Ordering}
use Rattle.rp_base.specs.Ids.{same_id}
use Rattle.rp_base.specs.Spans.{meets, meets_one}
use Rattle.rp_base.specs.declared.ids.CmdId.{CmdId}
use Rattle.rp_base.specs.declared.spans.Span.{Span}
use Rattle.rp_base.specs.declared.spans.Spans.{Spans}
use Rattle.rp_latch.specs.declared.holds.Hold.{Hold}
use Rattle.rp_latch.specs.declared.ages.Numbered.{Numbered}
use Rattle.rp_latch.specs.declared.index.Latch.{Latch}
use Rattle.rp_latch.specs.declared.tags.Tag.{Tag}
use Rattle.rp_latch.specs.Holds.{Apart}

-- the hold without its number
abbrev pub hold_of : Numbered → Hold
hold_of n = n.hold

-- numbers rise with each hold
abbrev pub IsOlder : Numbered → Numbered → Type 0
IsOlder x y = x.number < y.number

abbrev pub AreApart : Numbered → Numbered → Type 0
AreApart x y = Apart x.hold y.hold

-- the first latch ends before the other begins
abbrev pub EndsBefore : Latch → Latch → Type 0
EndsBefore x y = x.span.end ≤ y.span.start

-- latches in order, none of which meets another
abbrev pub InOrder : List Latch → Type 0
InOrder ls = AllPairs EndsBefore ls

-- whether a latch meets the span, or one of these
abbrev pub latch_meets : Span → Latch → Bool
latch_meets s l = meets l.span s

abbrev pub latch_meets_one : Spans → Latch → Bool
latch_meets_one asked l = meets_one asked l.span

abbrev pub some_meet : List Latch → Span → Bool
some_meet ls s = list_any (latch_meets s) ls

-- no latch meets the span, where there is one
abbrev pub IsClear : List Latch → Option Span → Type 0
IsClear ls None = Unit {0}
IsClear ls (Some s) = IsFalse (some_meet ls s)

-- whether it is this latch
abbrev pub is_latch : Latch → Latch → Bool
is_latch x l = l.span.start == x.span.start && l.span.end == x.span.end && l.number == x.number

-- the latch is one of these, where there is one
abbrev pub IsThere : List Latch → Option Latch → Type 0
IsThere ls None = Unit {0}
IsThere ls (Some l) = IsTrue (list_any (is_latch l) ls)

-- of two numbers, each of which may be missing, the lesser
abbrev pub lesser : Option ℕ → Option ℕ → Option ℕ
lesser None y = y
lesser (Some n) None = Some n
lesser (Some n) (Some m) = Some (min n m)

-- the least number of the latches that pass a test, where one does
abbrev pub IsOldest : (Latch → Bool) → List Latch → Option ℕ → Type 0
IsOldest p ls None = IsFalse (list_any p ls)
IsOldest p ls (Some n) =
    IsTrue (list_any (λ l. p l && l.number == n) ls)
    × IsFalse (list_any (λ l. p l && nat_lt l.number n) ls)

-- ids stand by the command's number, then by client, then by the attempt's: later commands come
-- last
abbrev pub id_cmp : CmdId → CmdId → Ordering
id_cmp x y =
    ordering_then (nat_cmp x.seq y.seq)
    (ordering_then (nat_cmp x.client y.client) (nat_cmp x.attempt y.attempt))

-- whether the tag's id stands before this one, and whether it is this one
abbrev pub is_before : CmdId → Tag → Bool
is_before id t = is_lt (id_cmp t.id id)

abbrev pub has_id : CmdId → Tag → Bool
has_id id t = same_id t.id id

-- tags in the order of their ids
abbrev pub IsNotAfter : Tag → Tag → Type 0
IsNotAfter x y = IsFalse (is_before x.id y)

abbrev pub ById : List Tag → Type 0
ById ts = AllPairs IsNotAfter ts

-- what a hold gives to each index: its first span, its second, its id
abbrev pub first_latch : Numbered → Option Latch
first_latch n = Some (record { span = n.hold.spans.first; number = n.number })

abbrev pub latch_at : ℕ → Option Span → Option Latch
latch_at number None = None
latch_at number (Some s) = Some (record { span = s; number = number })

abbrev pub second_latch : Numbered → Option Latch
second_latch n = latch_at n.number n.hold.spans.second

abbrev pub tag_of : Numbered → Option Tag
tag_of n = Some (record { id = n.hold.id; number = n.number })

-- whether there is one, and it passes a test
abbrev pub passes : {X : Type 0} → (X → Bool) → Option X → Bool
passes p None = false
passes p (Some x) = p x

-- an index has what the holds give, each as often as they do
abbrev pub Lists : {X : Type 0} → (Numbered → Option X) → List Numbered → List X → Type 0
Lists {X} give hs xs = (p : X → Bool) → count_by p xs ≡ count_by (λ h. passes p (give h)) hs
