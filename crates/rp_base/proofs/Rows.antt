-- Worked rows of the definitions, each by computation.
use Rattle.std.proofs.Common.{◌≡◌, ℕ, ◌*◌, ◌^◌, [], Some, None, Ok, Err, refl}
use Rattle.std.specs.Prelude.{codes}
use Rattle.rp_base.specs.declared.numbers.NumberFault.TheVariants.{NotNumber, TooLarge}
use Rattle.rp_base.specs.declared.ranges.Desc.{Desc}
use Rattle.rp_base.specs.declared.ranges.SplitFault.TheVariants.{NotInside, SplitLimit}
use Rattle.rp_base.specs.Keys.{key_number, key_of, key_text}
use Rattle.rp_base.specs.Leases.{lease_after, first_lease}
use Rattle.rp_base.specs.Numbers.{u64_of}
use Rattle.rp_base.specs.Splits.{left_part, right_part, split_of, first_desc}

-- keys
key_a : key_of (codes "a") ≡ Ok (97 * 256 ^ 15)
unfolding key_of key_number
key_a = refl

key_full : key_of (codes "0123456789abcdef") ≡ Ok 0x30313233343536373839616263646566
unfolding key_of key_number
key_full = refl

key_too_long : key_of (codes "0123456789abcdefg") ≡ Err (record { place = 16 })
unfolding key_of
key_too_long = refl

key_with_space : key_of (codes "a b~") ≡ Err (record { place = 1 })
unfolding key_of
key_with_space = refl

key_empty : key_of [] ≡ Err (record { place = 0 })
unfolding key_of
key_empty = refl

text_k01 : key_text 0x6b303100000000000000000000000000 ≡ codes "k01"
unfolding key_text
text_k01 = refl

-- numbers
number_last : u64_of (codes "018446744073709551615") ≡ Ok 18446744073709551615
unfolding u64_of
number_last = refl

number_past : u64_of (codes "18446744073709551616") ≡ Err TooLarge
unfolding u64_of
number_past = refl

number_not : u64_of (codes "99999999999999999999x") ≡ Err (NotNumber 20)
unfolding u64_of
number_not = refl

-- levels: range 0 split at m, f and c, and no further
abbrev below_m : Desc
below_m = left_part first_desc 0x6d000000000000000000000000000000 refl

abbrev below_f : Desc
below_f = left_part below_m 0x66000000000000000000000000000000 refl

abbrev below_c : Desc
below_c = left_part below_f 0x63000000000000000000000000000000 refl

right_ids : ◌≡◌ {A = ℕ × ℕ × ℕ} ((right_part first_desc 0x6d000000000000000000000000000000 refl).id, (right_part below_m 0x66000000000000000000000000000000 refl).id, (right_part below_f 0x63000000000000000000000000000000 refl).id) (1, 2, 4)
right_ids = refl

no_further : split_of below_c 0x62000000000000000000000000000000 ≡ Err (SplitLimit 3)
no_further = refl

not_inside : split_of (right_part first_desc 0x6d000000000000000000000000000000 refl) 0x6d000000000000000000000000000000 ≡ Err NotInside
not_inside = refl

-- leases: to node 2, back to node 1, renewed by its holder, and an ask that comes late
there : lease_after first_lease (record { holder = 2; prev = 1; expires = 40 }) ≡ Some (record { holder = 2; seq = 2; expires = 40 })
there = refl

back : lease_after (record { holder = 2; seq = 2; expires = 40 }) (record { holder = 1; prev = 2; expires = 56 }) ≡ Some (record { holder = 1; seq = 3; expires = 56 })
back = refl

renewed : lease_after (record { holder = 2; seq = 2; expires = 40 }) (record { holder = 2; prev = 2; expires = 0 }) ≡ Some (record { holder = 2; seq = 3; expires = 40 })
renewed = refl

late : lease_after (record { holder = 2; seq = 2; expires = 40 }) (record { holder = 1; prev = 1; expires = 56 }) ≡ None
late = refl
