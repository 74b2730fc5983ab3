-- The parts of a value of JSON, as the code finds them.
use Rattle.std.proofs.Common.{◌≡◌, ℕ, suc, Bool, true, false, map, List, [], ◌∷◌, length, Option, None, Some, refl, sym, ap, ◌∙◌}
use Rattle.std.specs.Prelude.{String, ◌==◌, ◌&&◌}
use Rattle.std.specs.List.{list_all}
use Rattle.std.specs.declared.alloc.Global.{Global}
use Rattle.serde_json.specs.Data.{Data, null, boolean, number, string, array, object, Items, Members}
use Rattle.serde_json.specs.Find.{as_array, as_object}
use Rattle.serde_json.specs.View.{view, items_view, members_view}
use Rattle.serde_json.specs.declared.value.Value.{Value}
use Rattle.rp_reread.specs.Forms.{member_count, has_members, item_list, elements}

pub counted : (ms : List (String Global × Value)) → member_count (members_view ms) ≡ length ms
counted [] = refl
counted (m ∷ ms) = ap (λ n. suc n) (counted ms)

pub listed : (vs : List Value) → item_list (items_view vs) ≡ map view vs
listed [] = refl
listed (v ∷ vs) = ap (λ ds. view v ∷ ds) (listed vs)

pub of_object : (d : Data) (ms : Members) (n : ℕ) → as_object d ≡ Some ms → has_members n d ≡ (member_count ms == n)
of_object (object ms) other n h = let e : ms ≡ other = cc in ap (λ x. member_count x == n) e
of_object null other n h = cc
of_object (boolean b) other n h = cc
of_object (number x) other n h = cc
of_object (string s) other n h = cc
of_object (array ds) other n h = cc

pub of_no_object : (d : Data) (n : ℕ) → as_object d ≡ None → has_members n d ≡ false
of_no_object (object ms) n h = cc
of_no_object null n h = refl
of_no_object (boolean b) n h = refl
of_no_object (number x) n h = refl
of_no_object (string s) n h = refl
of_no_object (array ds) n h = refl

pub of_array : (d : Data) (is : Items) → as_array d ≡ Some is → elements d ≡ Some (item_list is)
of_array (array ds) other h = let e : ds ≡ other = cc in ap (λ x. Some (item_list x)) e
of_array null other h = cc
of_array (boolean b) other h = cc
of_array (number x) other h = cc
of_array (string s) other h = cc
of_array (object ms) other h = cc

pub of_no_array : (d : Data) → as_array d ≡ None → elements d ≡ None
of_no_array (array ds) h = cc
of_no_array null h = refl
of_no_array (boolean b) h = refl
of_no_array (number x) h = refl
of_no_array (string s) h = refl
of_no_array (object ms) h = refl

pub all_mapped : {A B : Type 0} (p : B → Bool) (f : A → B) (xs : List A) → list_all p (map f xs) ≡ list_all (λ x. p (f x)) xs
all_mapped p f [] = refl
all_mapped p f (x ∷ xs) = ap (λ b. p (f x) && b) (all_mapped p f xs)
