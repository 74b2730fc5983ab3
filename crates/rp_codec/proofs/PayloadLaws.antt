-- Payloads and their parts: what is spelled is read again, and what is read is so spelled.
use Rattle.std.proofs.Common.{◌≡◌, ℕ, zero, suc, ◌^◌, ◌<◌, ◌≤◌, ◌==◌, ◌||◌, Bool, true, false, List, [], ◌∷◌, ◌++◌, length, Option, Some, refl, sym, ap, subst, ◌∙◌, append_assoc, arith, if◌then◌else◌}
use Rattle.std.specs.List.{flat_map, list_any, AllByRecursion}
use Rattle.std.specs.Int.{w16, w32, w64, to_be_bytes}
use Rattle.std.proofs.lemmas.Bool.{eqb-true}
use Rattle.std.proofs.lemmas.Bool.Decides.{nat_tests}
use Rattle.std.proofs.lemmas.List.Concat.{flat_map-cons}
use Rattle.rp_base.specs.Keys.{IsKey}
use Rattle.rp_base.specs.Values.{IsValue, is_text}
use Rattle.rp_base.specs.declared.CmdId.{CmdId}
use Rattle.rp_base.specs.declared.LeaseAsk.{LeaseAsk}
use Rattle.rp_base.specs.declared.Value.{Value}
use Rattle.rp_request.specs.declared.Command.{Command}
use Rattle.rp_request.specs.declared.Op.{Op}
use Rattle.rp_request.specs.declared.Op.TheVariants as ops
use Rattle.rp_request.specs.declared.Payload.{Payload}
use Rattle.rp_request.specs.declared.Payload.TheVariants as payloads
use Rattle.rp_request.specs.declared.Reply.{Reply}
use Rattle.rp_request.specs.declared.Reply.TheVariants as replies
use Rattle.rp_request.specs.declared.Request.{Request}
use Rattle.rp_request.specs.declared.Request.TheVariants as requests
use Rattle.rp_request.specs.Fits.{FitsOption, FitsRequest, FitsReply, FitsOp, FitsBatch, FitsId, FitsCommand, FitsAsk, FitsPayload}
use Rattle.rp_request.specs.Texts.{request_has_text, reply_has_text, op_has_text, command_has_text, payload_has_text}
use Rattle.rp_codec.specs.Reading.{Reader, ◌>>=◌, given, byte_in, number_at, value_at, key_at, option_at, span_at, put_at, add_at, cput_at, del_at, wipe_at, move_at, split_at, request_of, request_at, old_at, now_at, count_at, range_at, reply_of, reply_at, set_at, remove_at, op_at, ops_at, batch_at, id_at, command_at, ask_at, tag_at, payload_of, version_of, payload_at}
use Rattle.rp_codec.specs.Spelling.{value_bytes, key_bytes, option_bytes, span_bytes, request_bytes, reply_bytes, op_bytes, batch_bytes, id_bytes, command_bytes, ask_bytes, version, payload_bytes}
use Rattle.rp_codec.proofs.Readers.{Again, again_given, again_then, again_last, Takes, takes_so, takes_given, Then, takes_then, Made, takes_last, takes_if}
use Rattle.rp_codec.proofs.FieldLaws.{wide16, wide32, byte_in_again, byte_in_takes, number_again, number_takes, n64_again, n64_takes, tagged, for_tag, value_again, value_takes, key_again, key_takes, option_again, option_takes, span_again, span_takes}
use Rattle.rp_codec.proofs.Suits.{Suits, no_text, suits_both, suits_left, suits_right}

-- ---- requests: what is spelled is read

put_again : (texts : Bool) (k : ℕ) (v : Value) → IsKey k → IsValue v → Suits texts (is_text (Some v)) → Again (put_at texts) (key_bytes k ++ value_bytes texts v) (requests.Put k v)
unfolding put_at
put_again texts k v key fits suits = again_then key_at (λ k. value_at texts >>= λ v. given (requests.Put k v)) (key_bytes k) (value_bytes texts v) k (requests.Put k v) (key_again k key)
    (again_last (value_at texts) (requests.Put k) (value_bytes texts v) v (value_again texts v fits suits))

add_again : (k n : ℕ) → IsKey k → n < 2 ^ 64 → Again add_at (key_bytes k ++ to_be_bytes w64 n) (requests.Add k n)
unfolding add_at
add_again k n key fits = again_then key_at (λ k. number_at w64 >>= λ n. given (requests.Add k n)) (key_bytes k) (to_be_bytes w64 n) k (requests.Add k n) (key_again k key)
    (again_last (number_at w64) (requests.Add k) (to_be_bytes w64 n) n (n64_again n fits))

cput_again : (texts : Bool) (k : ℕ) (o : Option Value) (v : Value) → IsKey k → FitsOption o → IsValue v → Suits texts (is_text o) → Suits texts (is_text (Some v))
    → Again (cput_at texts) (key_bytes k ++ option_bytes texts o ++ value_bytes texts v) (requests.CPut k o v)
unfolding cput_at
cput_again texts k o v key option fits may suits = rw append_assoc
    (again_then key_at (λ k. option_at texts >>= λ o. value_at texts >>= λ v. given (requests.CPut k o v)) (key_bytes k) (option_bytes texts o ++ value_bytes texts v) k (requests.CPut k o v) (key_again k key)
    (again_then (option_at texts) (λ o. value_at texts >>= λ v. given (requests.CPut k o v)) (option_bytes texts o) (value_bytes texts v) o (requests.CPut k o v) (option_again texts o option may)
    (again_last (value_at texts) (requests.CPut k o) (value_bytes texts v) v (value_again texts v fits suits))))

move_again : (k l n : ℕ) → IsKey k → IsKey l → n < 2 ^ 64 → Again move_at (key_bytes k ++ key_bytes l ++ to_be_bytes w64 n) (requests.Move k l n)
unfolding move_at
move_again k l n key other fits = rw append_assoc
    (again_then key_at (λ k. key_at >>= λ l. number_at w64 >>= λ n. given (requests.Move k l n)) (key_bytes k) (key_bytes l ++ to_be_bytes w64 n) k (requests.Move k l n) (key_again k key)
    (again_then key_at (λ l. number_at w64 >>= λ n. given (requests.Move k l n)) (key_bytes l) (to_be_bytes w64 n) l (requests.Move k l n) (key_again l other)
    (again_last (number_at w64) (requests.Move k l) (to_be_bytes w64 n) n (n64_again n fits))))

pub request_again : (texts : Bool) (r : Request) → FitsRequest r → Suits texts (request_has_text r) → Again (request_at texts) (request_bytes texts r) r
unfolding request_at request_of request_bytes del_at wipe_at split_at
request_again texts (requests.Put k v) fits suits = tagged 1 7 1 (request_of texts) _ _ (omega arith) (omega arith) (put_again texts k v fits.0 fits.1 suits)
request_again texts (requests.Add k n) fits suits = tagged 1 7 2 (request_of texts) _ _ (omega arith) (omega arith) (add_again k n fits.0 fits.1)
request_again texts (requests.CPut k o v) fits suits = tagged 1 7 3 (request_of texts) _ _ (omega arith) (omega arith) (cput_again texts k o v fits.0 fits.1 fits.2 (suits_left texts (is_text o) (is_text (Some v)) suits) (suits_right texts (is_text o) (is_text (Some v)) suits))
request_again texts (requests.Del k) fits suits = tagged 1 7 4 (request_of texts) _ _ (omega arith) (omega arith) (again_last key_at requests.Del (key_bytes k) k (key_again k fits))
request_again texts (requests.Wipe s) fits suits = tagged 1 7 5 (request_of texts) _ _ (omega arith) (omega arith) (again_last span_at requests.Wipe (span_bytes s) s (span_again s fits))
request_again texts (requests.Move k l n) fits suits = tagged 1 7 6 (request_of texts) _ _ (omega arith) (omega arith) (move_again k l n fits.0 fits.1 fits.2)
request_again texts (requests.Split k) fits suits = tagged 1 7 7 (request_of texts) _ _ (omega arith) (omega arith) (again_last key_at requests.Split (key_bytes k) k (key_again k fits))

-- ---- requests: what is read is so spelled

abbrev SaysRequest : Bool → ℕ → Request → List ℕ → Type 0
SaysRequest texts tag r text = (tag ∷ text ≡ request_bytes texts r) × FitsRequest r × Suits texts (request_has_text r)

put_takes : (texts : Bool) → Takes (put_at texts) (SaysRequest texts 1)
unfolding put_at request_bytes
put_takes texts = takes_so _ _ _
    (takes_then key_at (λ k. value_at texts >>= λ v. given (requests.Put k v)) _ (λ k. Made (requests.Put k) _) key_takes (λ k text is. takes_last (value_at texts) (requests.Put k) _ (value_takes texts)))
    (λ r text t. (rw (t.second.is, t.joined, t.first.0, t.second.of.0) refl, rw t.second.is (t.first.1, t.second.of.1), rw t.second.is t.second.of.2))

add_takes : (texts : Bool) → Takes add_at (SaysRequest texts 2)
unfolding add_at request_bytes
add_takes texts = takes_so _ _ _
    (takes_then key_at (λ k. number_at w64 >>= λ n. given (requests.Add k n)) _ (λ k. Made (requests.Add k) _) key_takes (λ k text is. takes_last (number_at w64) (requests.Add k) _ n64_takes))
    (λ r text t. (rw (t.second.is, t.joined, t.first.0, t.second.of.0) refl, rw t.second.is (t.first.1, t.second.of.1), rw t.second.is (no_text texts)))

cput_takes : (texts : Bool) → Takes (cput_at texts) (SaysRequest texts 3)
unfolding cput_at request_bytes
cput_takes texts = takes_so _ _ _
    (takes_then key_at (λ k. option_at texts >>= λ o. value_at texts >>= λ v. given (requests.CPut k o v)) _ (λ k. Then _ (λ o. Made (requests.CPut k o) _)) key_takes
    (λ k text is. takes_then (option_at texts) (λ o. value_at texts >>= λ v. given (requests.CPut k o v)) _ (λ o. Made (requests.CPut k o) _) (option_takes texts)
    (λ o text is. takes_last (value_at texts) (requests.CPut k o) _ (value_takes texts))))
    (λ r text t. (
      rw (t.second.second.is, t.joined, t.second.joined, t.first.0, t.second.first.0, t.second.second.of.0) (ap (λ (bytes : List ℕ). 3 ∷ bytes) (sym (append_assoc (key_bytes t.value) (option_bytes texts t.second.value) (value_bytes texts t.second.second.value)))),
      rw t.second.second.is (t.first.1, t.second.first.1, t.second.second.of.1),
      rw t.second.second.is (suits_both texts (is_text t.second.value) (is_text (Some t.second.second.value)) t.second.first.2 t.second.second.of.2),
    ))

del_takes : (texts : Bool) → Takes del_at (SaysRequest texts 4)
unfolding del_at request_bytes
del_takes texts = takes_so _ _ _ (takes_last key_at requests.Del _ key_takes) (λ r text m. (rw (m.is, m.of.0) refl, rw m.is m.of.1, rw m.is (no_text texts)))

wipe_takes : (texts : Bool) → Takes wipe_at (SaysRequest texts 5)
unfolding wipe_at request_bytes
wipe_takes texts = takes_so _ _ _ (takes_last span_at requests.Wipe _ span_takes) (λ r text m. (rw (m.is, m.of.0) refl, rw m.is m.of.1, rw m.is (no_text texts)))

move_takes : (texts : Bool) → Takes move_at (SaysRequest texts 6)
unfolding move_at request_bytes
move_takes texts = takes_so _ _ _
    (takes_then key_at (λ k. key_at >>= λ l. number_at w64 >>= λ n. given (requests.Move k l n)) _ (λ k. Then _ (λ l. Made (requests.Move k l) _)) key_takes
    (λ k text is. takes_then key_at (λ l. number_at w64 >>= λ n. given (requests.Move k l n)) _ (λ l. Made (requests.Move k l) _) key_takes
    (λ l text is. takes_last (number_at w64) (requests.Move k l) _ n64_takes)))
    (λ r text t. (
      rw (t.second.second.is, t.joined, t.second.joined, t.first.0, t.second.first.0, t.second.second.of.0) (ap (λ (bytes : List ℕ). 6 ∷ bytes) (sym (append_assoc (key_bytes t.value) (key_bytes t.second.value) (to_be_bytes w64 t.second.second.value)))),
      rw t.second.second.is (t.first.1, t.second.first.1, t.second.second.of.1),
      rw t.second.second.is (no_text texts),
    ))

split_takes : (texts : Bool) → Takes split_at (SaysRequest texts 7)
unfolding split_at request_bytes
split_takes texts = takes_so _ _ _ (takes_last key_at requests.Split _ key_takes) (λ r text m. (rw (m.is, m.of.0) refl, rw m.is m.of.1, rw m.is (no_text texts)))

request_of_takes : (texts : Bool) (tag : ℕ) → 1 ≤ tag → tag ≤ 7 → Takes (request_of texts tag) (SaysRequest texts tag)
unfolding request_of
request_of_takes texts tag from to =
    takes_if (tag == 1) _ _ _ (for_tag tag 1 (put_at texts) (SaysRequest texts) (put_takes texts)) (λ n1.
    takes_if (tag == 2) _ _ _ (for_tag tag 2 add_at (SaysRequest texts) (add_takes texts)) (λ n2.
    takes_if (tag == 3) _ _ _ (for_tag tag 3 (cput_at texts) (SaysRequest texts) (cput_takes texts)) (λ n3.
    takes_if (tag == 4) _ _ _ (for_tag tag 4 del_at (SaysRequest texts) (del_takes texts)) (λ n4.
    takes_if (tag == 5) _ _ _ (for_tag tag 5 wipe_at (SaysRequest texts) (wipe_takes texts)) (λ n5.
    takes_if (tag == 6) _ _ _ (for_tag tag 6 move_at (SaysRequest texts) (move_takes texts)) (λ n6.
    for_tag tag 7 split_at (SaysRequest texts) (split_takes texts) (grind (arith, nat_tests))))))))

pub request_takes : (texts : Bool) → Takes (request_at texts) (λ r text. (text ≡ request_bytes texts r) × FitsRequest r × Suits texts (request_has_text r))
unfolding request_at
request_takes texts = takes_so _ _ _ (takes_then (byte_in 1 7) (request_of texts) _ (SaysRequest texts) (byte_in_takes 1 7) (λ tag text is. request_of_takes texts tag is.1 is.2))
    (λ r text t. (t.joined ∙ rw t.first.0 t.second.0, t.second.1, t.second.2))

-- ---- replies

pub reply_again : (texts : Bool) (r : Reply) → FitsReply r → Suits texts (reply_has_text r) → Again (reply_at texts) (reply_bytes texts r) r
unfolding reply_at reply_of reply_bytes old_at now_at count_at range_at
reply_again texts (replies.Old o) fits suits = tagged 1 5 1 (reply_of texts) (option_bytes texts o) (replies.Old o) (omega arith) (omega arith) (again_last (option_at texts) replies.Old (option_bytes texts o) o (option_again texts o fits suits))
reply_again texts (replies.Now n) fits suits = tagged 1 5 2 (reply_of texts) (to_be_bytes w64 n) (replies.Now n) (omega arith) (omega arith) (again_last (number_at w64) replies.Now (to_be_bytes w64 n) n (n64_again n fits))
reply_again texts replies.Set fits suits = tagged 1 5 3 (reply_of texts) [] replies.Set (omega arith) (omega arith) (again_given replies.Set)
reply_again texts (replies.Count n) fits suits = tagged 1 5 4 (reply_of texts) (to_be_bytes w64 n) (replies.Count n) (omega arith) (omega arith) (again_last (number_at w64) replies.Count (to_be_bytes w64 n) n (n64_again n fits))
reply_again texts (replies.Range r) fits suits = tagged 1 5 5 (reply_of texts) (r ∷ []) (replies.Range r) (omega arith) (omega arith) (again_last (byte_in 0 7) replies.Range (r ∷ []) r (byte_in_again 0 7 r (omega arith) fits))

abbrev SaysReply : Bool → ℕ → Reply → List ℕ → Type 0
SaysReply texts tag r text = (tag ∷ text ≡ reply_bytes texts r) × FitsReply r × Suits texts (reply_has_text r)

old_takes : (texts : Bool) → Takes (old_at texts) (SaysReply texts 1)
unfolding old_at reply_bytes
old_takes texts = takes_so _ _ _ (takes_last (option_at texts) replies.Old _ (option_takes texts)) (λ r text m. (rw (m.is, m.of.0) refl, rw m.is m.of.1, rw m.is m.of.2))

now_takes : (texts : Bool) → Takes now_at (SaysReply texts 2)
unfolding now_at reply_bytes
now_takes texts = takes_so _ _ _ (takes_last (number_at w64) replies.Now _ n64_takes) (λ r text m. (rw (m.is, m.of.0) refl, rw m.is m.of.1, rw m.is (no_text texts)))

set_reply_takes : (texts : Bool) → Takes (given replies.Set) (SaysReply texts 3)
unfolding reply_bytes
set_reply_takes texts = takes_so _ _ _ (takes_given replies.Set) (λ r text m. (rw (m.0, m.1) refl, rw m.0 tt, rw m.0 (no_text texts)))

count_takes : (texts : Bool) → Takes count_at (SaysReply texts 4)
unfolding count_at reply_bytes
count_takes texts = takes_so _ _ _ (takes_last (number_at w64) replies.Count _ n64_takes) (λ r text m. (rw (m.is, m.of.0) refl, rw m.is m.of.1, rw m.is (no_text texts)))

range_takes : (texts : Bool) → Takes range_at (SaysReply texts 5)
unfolding range_at reply_bytes
range_takes texts = takes_so _ _ _ (takes_last (byte_in 0 7) replies.Range _ (byte_in_takes 0 7)) (λ r text m. (rw (m.is, m.of.0) refl, rw m.is m.of.2, rw m.is (no_text texts)))

reply_of_takes : (texts : Bool) (tag : ℕ) → 1 ≤ tag → tag ≤ 5 → Takes (reply_of texts tag) (SaysReply texts tag)
unfolding reply_of
reply_of_takes texts tag from to =
    takes_if (tag == 1) _ _ _ (for_tag tag 1 (old_at texts) (SaysReply texts) (old_takes texts)) (λ n1.
    takes_if (tag == 2) _ _ _ (for_tag tag 2 now_at (SaysReply texts) (now_takes texts)) (λ n2.
    takes_if (tag == 3) _ _ _ (for_tag tag 3 (given replies.Set) (SaysReply texts) (set_reply_takes texts)) (λ n3.
    takes_if (tag == 4) _ _ _ (for_tag tag 4 count_at (SaysReply texts) (count_takes texts)) (λ n4.
    for_tag tag 5 range_at (SaysReply texts) (range_takes texts) (grind (arith, nat_tests))))))

pub reply_takes : (texts : Bool) → Takes (reply_at texts) (λ r text. (text ≡ reply_bytes texts r) × FitsReply r × Suits texts (reply_has_text r))
unfolding reply_at
reply_takes texts = takes_so _ _ _ (takes_then (byte_in 1 5) (reply_of texts) _ (SaysReply texts) (byte_in_takes 1 5) (λ tag text is. reply_of_takes texts tag is.1 is.2))
    (λ r text t. (t.joined ∙ rw t.first.0 t.second.0, t.second.1, t.second.2))

-- ---- writes and batches

pub op_again : (texts : Bool) (op : Op) → FitsOp op → Suits texts (op_has_text op) → Again (op_at texts) (op_bytes texts op) op
unfolding op_at op_bytes set_at remove_at
op_again texts (ops.Set k v) fits suits = tagged 1 2 1 (λ tag. if tag == 1 then set_at texts else remove_at) _ _ (omega arith) (omega arith)
    (again_then key_at (λ k. value_at texts >>= λ v. given (ops.Set k v)) (key_bytes k) (value_bytes texts v) k (ops.Set k v) (key_again k fits.0)
    (again_last (value_at texts) (ops.Set k) (value_bytes texts v) v (value_again texts v fits.1 suits)))
op_again texts (ops.Remove k) fits suits = tagged 1 2 2 (λ tag. if tag == 1 then set_at texts else remove_at) _ _ (omega arith) (omega arith)
    (again_last key_at ops.Remove (key_bytes k) k (key_again k fits))

abbrev SaysOp : Bool → ℕ → Op → List ℕ → Type 0
SaysOp texts tag op text = (tag ∷ text ≡ op_bytes texts op) × FitsOp op × Suits texts (op_has_text op)

set_takes : (texts : Bool) → Takes (set_at texts) (SaysOp texts 1)
unfolding set_at op_bytes
set_takes texts = takes_so _ _ _
    (takes_then key_at (λ k. value_at texts >>= λ v. given (ops.Set k v)) _ (λ k. Made (ops.Set k) _) key_takes (λ k text is. takes_last (value_at texts) (ops.Set k) _ (value_takes texts)))
    (λ r text t. (rw (t.second.is, t.joined, t.first.0, t.second.of.0) refl, rw t.second.is (t.first.1, t.second.of.1), rw t.second.is t.second.of.2))

remove_takes : (texts : Bool) → Takes remove_at (SaysOp texts 2)
unfolding remove_at op_bytes
remove_takes texts = takes_so _ _ _ (takes_last key_at ops.Remove _ key_takes) (λ r text m. (rw (m.is, m.of.0) refl, rw m.is m.of.1, rw m.is (no_text texts)))

pub op_takes : (texts : Bool) → Takes (op_at texts) (λ op text. (text ≡ op_bytes texts op) × FitsOp op × Suits texts (op_has_text op))
unfolding op_at
op_takes texts = takes_so _ _ _
    (takes_then (byte_in 1 2) (λ tag. if tag == 1 then set_at texts else remove_at) _ (SaysOp texts) (byte_in_takes 1 2)
    (λ tag text is. takes_if (tag == 1) _ _ _ (for_tag tag 1 (set_at texts) (SaysOp texts) (set_takes texts))
    (λ n1. let from : 1 ≤ tag = is.1 in let to : tag ≤ 2 = is.2 in for_tag tag 2 remove_at (SaysOp texts) (remove_takes texts) (grind (arith, nat_tests)))))
    (λ r text t. (t.joined ∙ rw t.first.0 t.second.0, t.second.1, t.second.2))

ops_again : (texts : Bool) (writes : List Op) → AllByRecursion FitsOp writes → Suits texts (list_any op_has_text writes) → Again (ops_at texts (length writes)) (flat_map (op_bytes texts) writes) writes
unfolding ops_at
ops_again texts [] fits suits = again_given []
ops_again texts (op ∷ more) fits suits = rw flat_map-cons
    (again_then (op_at texts) (λ op. ops_at texts (length more) >>= λ more. given (op ∷ more)) (op_bytes texts op) (flat_map (op_bytes texts) more) op (op ∷ more)
    (op_again texts op fits.0 (suits_left texts (op_has_text op) (list_any op_has_text more) suits))
    (again_last (ops_at texts (length more)) (λ more. op ∷ more) (flat_map (op_bytes texts) more) more (ops_again texts more fits.1 (suits_right texts (op_has_text op) (list_any op_has_text more) suits))))

abbrev SaysOps : Bool → ℕ → List Op → List ℕ → Type 0
SaysOps texts n writes text = (length writes ≡ n) × (text ≡ flat_map (op_bytes texts) writes) × AllByRecursion FitsOp writes × Suits texts (list_any op_has_text writes)

ops_take : (texts : Bool) (n : ℕ) → Takes (ops_at texts n) (SaysOps texts n)
unfolding ops_at
ops_take texts zero = takes_so _ _ _ (takes_given []) (λ writes text m. (rw m.0 refl, rw (m.0, m.1) refl, rw m.0 tt, rw m.0 (no_text texts)))
ops_take texts (suc n) = takes_so _ _ _
    (takes_then (op_at texts) (λ op. ops_at texts n >>= λ more. given (op ∷ more)) _ (λ op. Made (λ more. op ∷ more) _) (op_takes texts) (λ op text is. takes_last (ops_at texts n) (λ more. op ∷ more) _ (ops_take texts n)))
    (λ writes text t. (
      rw t.second.is (ap suc t.second.of.0),
      rw (t.second.is, t.joined, t.first.0, t.second.of.1) (sym (flat_map-cons (op_bytes texts) t.value t.second.value)),
      rw t.second.is (t.first.1, t.second.of.2),
      rw t.second.is (suits_both texts (op_has_text t.value) (list_any op_has_text t.second.value) t.first.2 t.second.of.3),
    ))

pub batch_again : (texts : Bool) (writes : List Op) → FitsBatch writes → Suits texts (list_any op_has_text writes) → Again (batch_at texts) (batch_bytes texts writes) writes
unfolding batch_at batch_bytes
batch_again texts writes fits suits = tagged 0 16 (length writes) (ops_at texts) (flat_map (op_bytes texts) writes) writes (omega arith) fits.0 (ops_again texts writes fits.1 suits)

pub batch_takes : (texts : Bool) → Takes (batch_at texts) (λ writes text. (text ≡ batch_bytes texts writes) × FitsBatch writes × Suits texts (list_any op_has_text writes))
unfolding batch_at batch_bytes
batch_takes texts = takes_so _ _ _ (takes_then (byte_in 0 16) (ops_at texts) _ (SaysOps texts) (byte_in_takes 0 16) (λ count text is. ops_take texts count))
    (λ writes text t. (t.joined ∙ rw (t.first.0, t.second.1, t.second.0) refl, (rw t.second.0 t.first.2, t.second.2), t.second.3))

-- ---- commands

pub id_again : (i : CmdId) → FitsId i → Again id_at (id_bytes i) i
unfolding id_at id_bytes
id_again i fits =
    again_then (number_at w16) (λ client. number_at w32 >>= λ seq. number_at w16 >>= λ attempt. given (record { client = client; seq = seq; attempt = attempt }))
    (to_be_bytes w16 i.client) (to_be_bytes w32 i.seq ++ to_be_bytes w16 i.attempt) i.client i (number_again w16 (2 ^ 16) wide16 i.client fits.0)
    (again_then (number_at w32) (λ seq. number_at w16 >>= λ attempt. given (record { client = i.client; seq = seq; attempt = attempt }))
    (to_be_bytes w32 i.seq) (to_be_bytes w16 i.attempt) i.seq i (number_again w32 (2 ^ 32) wide32 i.seq fits.1)
    (again_last (number_at w16) (λ attempt. record { client = i.client; seq = i.seq; attempt = attempt }) (to_be_bytes w16 i.attempt) i.attempt (number_again w16 (2 ^ 16) wide16 i.attempt fits.2)))

pub id_takes : Takes id_at (λ i text. (text ≡ id_bytes i) × FitsId i)
unfolding id_at id_bytes
id_takes = takes_so _ _ _
    (takes_then (number_at w16) (λ client. number_at w32 >>= λ seq. number_at w16 >>= λ attempt. given (record { client = client; seq = seq; attempt = attempt })) _
    (λ client. Then _ (λ seq. Made (λ attempt. let i : CmdId = record { client = client; seq = seq; attempt = attempt } in i) _)) (number_takes w16 (2 ^ 16) wide16)
    (λ client text is. takes_then (number_at w32) (λ seq. number_at w16 >>= λ attempt. given (record { client = client; seq = seq; attempt = attempt })) _
    (λ seq. Made (λ attempt. let i : CmdId = record { client = client; seq = seq; attempt = attempt } in i) _) (number_takes w32 (2 ^ 32) wide32)
    (λ seq text is. takes_last (number_at w16) (λ attempt. let i : CmdId = record { client = client; seq = seq; attempt = attempt } in i) _ (number_takes w16 (2 ^ 16) wide16))))
    (λ i text t. (rw (t.second.second.is, t.joined, t.second.joined, t.first.0, t.second.first.0, t.second.second.of.0) refl, rw t.second.second.is (t.first.1, t.second.first.1, t.second.second.of.1)))

pub ask_again : (a : LeaseAsk) → FitsAsk a → Again ask_at (ask_bytes a) a
unfolding ask_at ask_bytes
ask_again a fits =
    tagged 1 5 a.holder (λ holder. number_at w64 >>= λ prev. number_at w64 >>= λ expires. given (record { holder = holder; prev = prev; expires = expires }))
    (to_be_bytes w64 a.prev ++ to_be_bytes w64 a.expires) a fits.from_one fits.to_five
    (again_then (number_at w64) (λ prev. number_at w64 >>= λ expires. given (record { holder = a.holder; prev = prev; expires = expires }))
    (to_be_bytes w64 a.prev) (to_be_bytes w64 a.expires) a.prev a (n64_again a.prev fits.prev)
    (again_last (number_at w64) (λ expires. record { holder = a.holder; prev = a.prev; expires = expires }) (to_be_bytes w64 a.expires) a.expires (n64_again a.expires fits.expires)))

pub ask_takes : Takes ask_at (λ a text. (text ≡ ask_bytes a) × FitsAsk a)
unfolding ask_at ask_bytes
ask_takes = takes_so _ _ _
    (takes_then (byte_in 1 5) (λ holder. number_at w64 >>= λ prev. number_at w64 >>= λ expires. given (record { holder = holder; prev = prev; expires = expires })) _
    (λ holder. Then _ (λ prev. Made (λ expires. let a : LeaseAsk = record { holder = holder; prev = prev; expires = expires } in a) _)) (byte_in_takes 1 5)
    (λ holder text is. takes_then (number_at w64) (λ prev. number_at w64 >>= λ expires. given (record { holder = holder; prev = prev; expires = expires })) _
    (λ prev. Made (λ expires. let a : LeaseAsk = record { holder = holder; prev = prev; expires = expires } in a) _) n64_takes
    (λ prev text is. takes_last (number_at w64) (λ expires. let a : LeaseAsk = record { holder = holder; prev = prev; expires = expires } in a) _ n64_takes)))
    (λ a text t. (
      rw (t.second.second.is, t.joined, t.second.joined, t.first.0, t.second.first.0, t.second.second.of.0) refl,
      rw t.second.second.is (record { from_one = t.first.1; to_five = t.first.2; prev = t.second.first.1; expires = t.second.second.of.1 }),
    ))

regroup : (a b c d e f : List ℕ) → a ++ (b ++ (c ++ (d ++ (e ++ f)))) ≡ a ++ b ++ c ++ d ++ e ++ f
regroup a b c d e f = simp append_assoc

-- the forms behind each field of a command
abbrev made : CmdId → ℕ → ℕ → Request → Reply → List Op → Command
made id seq max request reply batch = record { id = id; request = request; batch = batch; reply = reply; seq = seq; max = max }

abbrev behind_reply : Bool → CmdId → ℕ → ℕ → Request → Reply → Reader Command
behind_reply texts id seq max request reply = batch_at texts >>= λ batch. given (made id seq max request reply batch)

abbrev behind_request : Bool → CmdId → ℕ → ℕ → Request → Reader Command
behind_request texts id seq max request = reply_at texts >>= λ reply. behind_reply texts id seq max request reply

abbrev behind_max : Bool → CmdId → ℕ → ℕ → Reader Command
behind_max texts id seq max = request_at texts >>= λ request. behind_request texts id seq max request

abbrev behind_seq : Bool → CmdId → ℕ → Reader Command
behind_seq texts id seq = number_at w64 >>= λ max. behind_max texts id seq max

abbrev behind_id : Bool → CmdId → Reader Command
behind_id texts id = number_at w64 >>= λ seq. behind_seq texts id seq

pub command_again : (texts : Bool) (c : Command) → FitsCommand c → Suits texts (command_has_text c) → Again (command_at texts) (command_bytes texts c) c
unfolding command_at command_bytes
command_again texts c fits suits =
    let request = request_has_text c.request in
    let reply = reply_has_text c.reply in
    let batch = list_any op_has_text c.batch in
    let behind = suits_right texts request (reply || batch) suits in
    let a : Again (behind_request texts c.id c.seq c.max c.request) (reply_bytes texts c.reply ++ batch_bytes texts c.batch) c =
    again_then (reply_at texts) (λ reply. behind_reply texts c.id c.seq c.max c.request reply) (reply_bytes texts c.reply) (batch_bytes texts c.batch) c.reply c (reply_again texts c.reply fits.reply (suits_left texts reply batch behind))
    (again_last (batch_at texts) (made c.id c.seq c.max c.request c.reply) (batch_bytes texts c.batch) c.batch (batch_again texts c.batch fits.batch (suits_right texts reply batch behind))) in
    let b : Again (behind_max texts c.id c.seq c.max) (request_bytes texts c.request ++ (reply_bytes texts c.reply ++ batch_bytes texts c.batch)) c =
    again_then (request_at texts) (λ request. behind_request texts c.id c.seq c.max request) (request_bytes texts c.request) _ c.request c (request_again texts c.request fits.request (suits_left texts request (reply || batch) suits)) a in
    let d : Again (behind_seq texts c.id c.seq) (to_be_bytes w64 c.max ++ (request_bytes texts c.request ++ (reply_bytes texts c.reply ++ batch_bytes texts c.batch))) c =
    again_then (number_at w64) (λ max. behind_max texts c.id c.seq max) (to_be_bytes w64 c.max) (request_bytes texts c.request ++ (reply_bytes texts c.reply ++ batch_bytes texts c.batch)) c.max c (n64_again c.max fits.max) b in
    let e : Again (behind_id texts c.id) (to_be_bytes w64 c.seq ++ (to_be_bytes w64 c.max ++ (request_bytes texts c.request ++ (reply_bytes texts c.reply ++ batch_bytes texts c.batch)))) c =
    again_then (number_at w64) (λ seq. behind_seq texts c.id seq) (to_be_bytes w64 c.seq) (to_be_bytes w64 c.max ++ (request_bytes texts c.request ++ (reply_bytes texts c.reply ++ batch_bytes texts c.batch))) c.seq c (n64_again c.seq fits.seq) d in
    let f : Again (command_at texts) (id_bytes c.id ++ (to_be_bytes w64 c.seq ++ (to_be_bytes w64 c.max ++ (request_bytes texts c.request ++ (reply_bytes texts c.reply ++ batch_bytes texts c.batch))))) c =
    again_then id_at (behind_id texts) (id_bytes c.id) (to_be_bytes w64 c.seq ++ (to_be_bytes w64 c.max ++ (request_bytes texts c.request ++ (reply_bytes texts c.reply ++ batch_bytes texts c.batch)))) c.id c (id_again c.id fits.id) e in
    let P : List ℕ → Type 0 = λ text. Again (command_at texts) text c in
    subst P (regroup (id_bytes c.id) (to_be_bytes w64 c.seq) (to_be_bytes w64 c.max) (request_bytes texts c.request) (reply_bytes texts c.reply) (batch_bytes texts c.batch)) f

abbrev SaysId : CmdId → List ℕ → Type 0
SaysId i text = (text ≡ id_bytes i) × FitsId i

abbrev SaysNumber : ℕ → List ℕ → Type 0
SaysNumber n text = (text ≡ to_be_bytes w64 n) × (n < 2 ^ 64)

abbrev SaysRequestWhole : Bool → Request → List ℕ → Type 0
SaysRequestWhole texts r text = (text ≡ request_bytes texts r) × FitsRequest r × Suits texts (request_has_text r)

abbrev SaysReplyWhole : Bool → Reply → List ℕ → Type 0
SaysReplyWhole texts r text = (text ≡ reply_bytes texts r) × FitsReply r × Suits texts (reply_has_text r)

abbrev SaysBatch : Bool → List Op → List ℕ → Type 0
SaysBatch texts writes text = (text ≡ batch_bytes texts writes) × FitsBatch writes × Suits texts (list_any op_has_text writes)

-- what is known of a command and its bytes once the fields up to one are
abbrev AfterReply : Bool → CmdId → ℕ → ℕ → Request → Reply → Command → List ℕ → Type 0
AfterReply texts id seq max request reply = Made (made id seq max request reply) (SaysBatch texts)

abbrev AfterRequest : Bool → CmdId → ℕ → ℕ → Request → Command → List ℕ → Type 0
AfterRequest texts id seq max request = Then (SaysReplyWhole texts) (AfterReply texts id seq max request)

abbrev AfterMax : Bool → CmdId → ℕ → ℕ → Command → List ℕ → Type 0
AfterMax texts id seq max = Then (SaysRequestWhole texts) (AfterRequest texts id seq max)

abbrev AfterSeq : Bool → CmdId → ℕ → Command → List ℕ → Type 0
AfterSeq texts id seq = Then SaysNumber (AfterMax texts id seq)

abbrev AfterId : Bool → CmdId → Command → List ℕ → Type 0
AfterId texts id = Then SaysNumber (AfterSeq texts id)

command_parts : (texts : Bool) → Takes (command_at texts) (Then SaysId (AfterId texts))
unfolding command_at
command_parts texts =
    takes_then id_at (behind_id texts) SaysId (AfterId texts) id_takes (λ id text is.
    takes_then (number_at w64) (behind_seq texts id) SaysNumber (AfterSeq texts id) n64_takes (λ seq text is.
    takes_then (number_at w64) (behind_max texts id seq) SaysNumber (AfterMax texts id seq) n64_takes (λ max text is.
    takes_then (request_at texts) (behind_request texts id seq max) (SaysRequestWhole texts) (AfterRequest texts id seq max) (request_takes texts) (λ request text is.
    takes_then (reply_at texts) (behind_reply texts id seq max request) (SaysReplyWhole texts) (AfterReply texts id seq max request) (reply_takes texts) (λ reply text is.
    takes_last (batch_at texts) (made id seq max request reply) (SaysBatch texts) (batch_takes texts))))))

command_says : (texts : Bool) (c : Command) (text : List ℕ) → Then SaysId (AfterId texts) c text → (text ≡ command_bytes texts c) × FitsCommand c × Suits texts (command_has_text c)
unfolding command_bytes
command_says texts c text t =
    let s = t.second in
    let m = s.second in
    let r = m.second in
    let p = r.second in
    let b = p.second in
    let line : text ≡ id_bytes t.value ++ (to_be_bytes w64 s.value ++ (to_be_bytes w64 m.value ++ (request_bytes texts r.value ++ (reply_bytes texts p.value ++ batch_bytes texts b.value)))) =
    rw (t.joined, s.joined, m.joined, r.joined, p.joined, t.first.0, s.first.0, m.first.0, r.first.0, p.first.0, b.of.0) refl in
    let P : Command → Type 0 = λ c. (text ≡ command_bytes texts c) × FitsCommand c × Suits texts (command_has_text c) in
    let replied = reply_has_text p.value in
    let batched = list_any op_has_text b.value in
    subst P (sym b.is) (
      line ∙ regroup (id_bytes t.value) (to_be_bytes w64 s.value) (to_be_bytes w64 m.value) (request_bytes texts r.value) (reply_bytes texts p.value) (batch_bytes texts b.value),
      record { id = t.first.1; seq = s.first.1; max = m.first.1; request = r.first.1; reply = p.first.1; batch = b.of.1 },
      suits_both texts (request_has_text r.value) (replied || batched) r.first.2 (suits_both texts replied batched p.first.2 b.of.2),
    )

pub command_takes : (texts : Bool) → Takes (command_at texts) (λ c text. (text ≡ command_bytes texts c) × FitsCommand c × Suits texts (command_has_text c))
command_takes texts = takes_so (command_at texts) (Then SaysId (AfterId texts)) _ (command_parts texts) (command_says texts)

-- ---- payloads

write_again : (texts : Bool) (c : Command) → FitsCommand c → Suits texts (command_has_text c) → Again payload_at (payload_bytes texts (payloads.Write c)) (payloads.Write c)
unfolding payload_at version_of tag_at payload_of payload_bytes
write_again true c fits suits =
    tagged 1 2 2 (λ version. version_of (version == 2)) (1 ∷ command_bytes true c) (payloads.Write c) (omega arith) (omega arith)
    (tagged 1 1 1 (payload_of true) (command_bytes true c) (payloads.Write c) (omega arith) (omega arith) (again_last (command_at true) payloads.Write (command_bytes true c) c (command_again true c fits suits)))
write_again false c fits suits =
    tagged 1 2 1 (λ version. version_of (version == 2)) (1 ∷ command_bytes false c) (payloads.Write c) (omega arith) (omega arith)
    (tagged 0 2 1 (payload_of false) (command_bytes false c) (payloads.Write c) (omega arith) (omega arith) (again_last (command_at false) payloads.Write (command_bytes false c) c (command_again false c fits suits)))

pub payload_again : (p : Payload) → FitsPayload p → Again payload_at (payload_bytes (payload_has_text p) p) p
unfolding payload_at version_of tag_at payload_of payload_bytes
payload_again payloads.Nothing fits =
    tagged 1 2 1 (λ version. version_of (version == 2)) (0 ∷ []) payloads.Nothing (omega arith) (omega arith)
    (tagged 0 2 0 (payload_of false) [] payloads.Nothing (omega arith) (omega arith) (again_given payloads.Nothing))
payload_again (payloads.Write c) fits = write_again (command_has_text c) c fits (λ h. h)
payload_again (payloads.Lease a) fits =
    tagged 1 2 1 (λ version. version_of (version == 2)) (2 ∷ ask_bytes a) (payloads.Lease a) (omega arith) (omega arith)
    (tagged 0 2 2 (payload_of false) (ask_bytes a) (payloads.Lease a) (omega arith) (omega arith) (again_last ask_at payloads.Lease (ask_bytes a) a (ask_again a fits)))

-- behind the version
abbrev SaysPayload : Bool → ℕ → Payload → List ℕ → Type 0
SaysPayload texts tag p text = (version texts ∷ tag ∷ text ≡ payload_bytes texts p) × FitsPayload p × Suits texts (payload_has_text p)

nothing_takes : (texts : Bool) → Takes (given payloads.Nothing) (SaysPayload texts 0)
unfolding payload_bytes
nothing_takes texts = takes_so _ _ _ (takes_given payloads.Nothing) (λ p text m. (rw (m.0, m.1) refl, rw m.0 tt, rw m.0 (no_text texts)))

write_takes : (texts : Bool) → Takes (command_at texts >>= λ c. given (payloads.Write c)) (SaysPayload texts 1)
unfolding payload_bytes
write_takes texts = takes_so _ _ _ (takes_last (command_at texts) payloads.Write _ (command_takes texts)) (λ p text m. (rw (m.is, m.of.0) refl, rw m.is m.of.1, rw m.is m.of.2))

lease_takes : (texts : Bool) → Takes (ask_at >>= λ a. given (payloads.Lease a)) (SaysPayload texts 2)
unfolding payload_bytes
lease_takes texts = takes_so _ _ _ (takes_last ask_at payloads.Lease _ ask_takes) (λ p text m. (rw (m.is, m.of.0) refl, rw m.is m.of.1, rw m.is (no_text texts)))

payload_of_takes : (texts : Bool) (tag : ℕ) → tag ≤ 2 → Takes (payload_of texts tag) (SaysPayload texts tag)
unfolding payload_of
payload_of_takes texts tag to =
    takes_if (tag == 0) _ _ _ (for_tag tag 0 _ (SaysPayload texts) (nothing_takes texts)) (λ n0.
    takes_if (tag == 1) _ _ _ (for_tag tag 1 _ (SaysPayload texts) (write_takes texts)) (λ n1.
    for_tag tag 2 _ (SaysPayload texts) (lease_takes texts) (grind (arith, nat_tests))))

tag_takes : (texts : Bool) → Takes (tag_at texts) (λ tag text. (text ≡ tag ∷ []) × (tag ≤ 2))
unfolding tag_at
tag_takes true = takes_so _ _ _ (byte_in_takes 1 1) (λ tag text is. (is.0, let one : tag ≤ 1 = is.2 in omega arith))
tag_takes false = takes_so _ _ _ (byte_in_takes 0 2) (λ tag text is. (is.0, is.2))

abbrev SaysVersion : Bool → Payload → List ℕ → Type 0
SaysVersion texts p text = (version texts ∷ text ≡ payload_bytes texts p) × FitsPayload p × Suits texts (payload_has_text p)

version_of_takes : (texts : Bool) → Takes (version_of texts) (SaysVersion texts)
unfolding version_of
version_of_takes texts = takes_so _ _ _
    (takes_then (tag_at texts) (payload_of texts) _ (SaysPayload texts) (tag_takes texts) (λ tag text is. payload_of_takes texts tag is.1))
    (λ p text t. (ap (λ (bytes : List ℕ). version texts ∷ bytes) t.joined ∙ rw t.first.0 t.second.0, t.second.1, t.second.2))

version_is : (n : ℕ) (v : Bool) → (n == 2) ≡ v → 1 ≤ n → n ≤ 2 → n ≡ version v
version_is n true e from to = eqb-true _ _ e
version_is n false e from to = grind (arith, nat_tests)

pub payload_takes : Takes payload_at (λ p text. (texts : Bool) × (text ≡ payload_bytes texts p) × FitsPayload p × Suits texts (payload_has_text p))
unfolding payload_at
payload_takes = takes_so _ _ _
    (takes_then (byte_in 1 2) (λ version. version_of (version == 2)) _ (λ version. SaysVersion (version == 2)) (byte_in_takes 1 2) (λ version text is. version_of_takes (version == 2)))
    (λ p text t. let one : t.value ≡ version (t.value == 2) = version_is t.value _ refl t.first.1 t.first.2 in
    (t.value == 2, t.joined ∙ rw t.first.0 (ap (λ (n : ℕ). n ∷ t.back) one) ∙ t.second.0, t.second.1, t.second.2))
