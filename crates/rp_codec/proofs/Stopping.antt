-- Reading stops at a field wherever it gives no payload.
use Rattle.std.proofs.Common.{◌≡◌, ℕ, zero, suc, ◌<◌, ◌==◌, ◌&&◌, Bool, true, false, not, nat_lt, List, [], ◌∷◌, length, take, None, Some, Result, Ok, Err, refl, sym, ap, subst, ◌∙◌, arith, if◌then◌else◌, ◌↔◌}
use Rattle.std.specs.Int.{Width, w16, w32, w64, byte_len, from_be_bytes}
use Rattle.std.proofs.lemmas.Bool.{eqb-true}
use Rattle.std.proofs.lemmas.Bool.Decides.{nat_tests}
use Rattle.rp_base.specs.declared.Value.TheVariants.{Number, Text}
use Rattle.rp_request.specs.Texts.{payload_has_text}
use Rattle.rp_request.specs.declared.Op.TheVariants as ops
use Rattle.rp_request.specs.declared.Payload.{Payload}
use Rattle.rp_request.specs.declared.Payload.TheVariants as payloads
use Rattle.rp_request.specs.declared.Reply.TheVariants as replies
use Rattle.rp_request.specs.declared.Request.TheVariants as requests
use Rattle.rp_codec.specs.Cursors.{Left, past, whole}
use Rattle.rp_codec.specs.declared.faults.BadField.{BadField}
use Rattle.rp_codec.specs.Reading.{Reader, bad, going_on, ◌>>=◌, given, begun_at, as_one_field, bytes_at, byte_parts, byte_in, number_at, text_parts, text_at, plain_at, kind_of, tagged_at, value_at, key_parts, key_at, option_parts, option_at, span_parts, span_at, put_at, add_at, cput_at, del_at, wipe_at, move_at, split_at, request_of, request_at, old_at, now_at, count_at, range_at, reply_of, reply_at, set_at, remove_at, op_at, ops_at, batch_at, id_at, command_at, ask_at, tag_at, payload_of, version_of, payload_at, begins_with, ended, all_in, canonical, payload_in}
use Rattle.rp_codec.specs.Stops.{Form, number, text, value, option, span, request, reply, write, batch, attempt, command, ask, payload, type_of, IsField, a_byte, a_number, a_key, a_text, a_span, an_option, StopsAt, here, first, behind, IsBadPlace, field, end, textless}

abbrev failed : {A : Type 0} → BadField → Result A BadField
failed e = Err e

failed_is : {A : Type 0} (d e : BadField) → failed {A = A} d ≡ failed e → d ≡ e
failed_is d e h = cc

-- what is refused has a field where reading stops
abbrev pub Stopping : (F : Form) → Reader (type_of F) → Type 0
Stopping F p = (left : Left) (e : BadField) → p left ≡ Err e → StopsAt F p left e.place

-- ---- fields

abbrev BadAtItself : {A : Type 0} → Reader A → Type 0
BadAtItself p = (left : Left) (e : BadField) → p left ≡ Err e → e.place ≡ left.place

stops_field : (F : Form) (p : Reader (type_of F)) → IsField F p → BadAtItself p → Stopping F p
stops_field F p is itself left e h =
    let same : e.place ≡ left.place = itself left e h in
    let refused : p left ≡ bad left.place = h ∙ ap (λ (n : ℕ). let r : Result (type_of F × Left) BadField = bad n in r) same in
    rw same (here F p left is refused)

begun_bad : {A : Type 0} (place : ℕ) (r : Result A BadField) (e : BadField) → begun_at place r ≡ Err e → e.place ≡ place
begun_bad place (Ok x) e h = absurd cc
begun_bad place (Err d) e h = ap (λ (b : BadField). b.place) (sym (failed_is (record { place = place }) e h))

one_field_bad : {A : Type 0} (p : Reader A) → BadAtItself (as_one_field p)
one_field_bad p left e h = begun_bad left.place (p left) e h

guard_bad : {A : Type 0} (b : Bool) (place : ℕ) (x : A) (e : BadField) → (if b then bad place else (let r : Result A BadField = Ok x in r)) ≡ Err e → e.place ≡ place
guard_bad true place x e h = ap (λ (b : BadField). b.place) (sym (failed_is (record { place = place }) e h))
guard_bad false place x e h = absurd cc

bytes_bad : (n : ℕ) → BadAtItself (bytes_at n)
unfolding bytes_at
bytes_bad n left e h = guard_bad (nat_lt (length left.bytes) n) left.place (take n left.bytes, past n left) e h

last_bad : {A B : Type 0} (r : Result (A × Left) BadField) (f : A → B) (e : BadField) → going_on r (λ v. given (f v)) ≡ Err e → r ≡ Err e
last_bad (Ok x) f e h = absurd cc
last_bad (Err d) f e h = ap failed (failed_is d e h)

number_bad : (w : Width) → BadAtItself (number_at w)
unfolding number_at
number_bad w left e h = bytes_bad (byte_len w) left e (last_bad (bytes_at (byte_len w) left) (from_be_bytes w) e h)

byte_stops : (low high : ℕ) → Stopping number (byte_in low high)
unfolding byte_in
byte_stops low high = stops_field number (byte_in low high) (a_byte low high) (one_field_bad (byte_parts low high))

number_stops : (w : Width) → Stopping number (number_at w)
number_stops w = stops_field number (number_at w) (a_number w) (number_bad w)

key_stops : Stopping number key_at
unfolding key_at
key_stops = stops_field number key_at a_key (one_field_bad key_parts)

text_stops : Stopping text text_at
unfolding text_at
text_stops = stops_field text text_at a_text (one_field_bad text_parts)

span_stops : Stopping span span_at
unfolding span_at
span_stops = stops_field span span_at a_span (one_field_bad span_parts)

plain_option_stops : Stopping option (option_at false)
unfolding option_at
plain_option_stops = stops_field option (option_at false) an_option (one_field_bad (option_parts false))

-- ---- one thing and then another

stops_given : (F : Form) (x : type_of F) → Stopping F (given x)
stops_given F x left e h = absurd cc

stops_step : (F G : Form) (p : Reader (type_of F)) (f : type_of F → Reader (type_of G)) (left : Left) (e : BadField) (r : Result (type_of F × Left) BadField)
    → Stopping F p → ((x : type_of F) → Stopping G (f x)) → p left ≡ r → going_on r f ≡ Err e → StopsAt G (p >>= f) left e.place
stops_step F G p f left e (Ok found) hp hf is h = behind F G p f left found.0 found.1 e.place is (hf found.0 found.1 e h)
stops_step F G p f left e (Err d) hp hf is h = first F G p f left e.place (hp left e (is ∙ ap failed (failed_is d e h)))

stops_then : (F G : Form) (p : Reader (type_of F)) (f : type_of F → Reader (type_of G)) → Stopping F p → ((x : type_of F) → Stopping G (f x)) → Stopping G (p >>= f)
stops_then F G p f hp hf left e h = stops_step F G p f left e (p left) hp hf refl h

stops_last : (F G : Form) (p : Reader (type_of F)) (f : type_of F → type_of G) → Stopping F p → Stopping G (p >>= λ v. given (f v))
stops_last F G p f hp = stops_then F G p (λ v. given (f v)) hp (λ v. stops_given G (f v))

stops_if : (F : Form) (b : Bool) (p q : Reader (type_of F)) → Stopping F p → Stopping F q → Stopping F (if b then p else q)
stops_if F true p q hp hq = hp
stops_if F false p q hp hq = hq

-- ---- values

plain_stops : Stopping value plain_at
unfolding plain_at
plain_stops = stops_last number value (number_at w64) Number (number_stops w64)

kind_stops : (kind : ℕ) → Stopping value (kind_of kind)
unfolding kind_of
kind_stops kind = stops_if value (kind == 0) plain_at (text_at >>= λ t. given (Text t)) plain_stops (stops_last text value text_at Text text_stops)

tagged_stops : Stopping value tagged_at
unfolding tagged_at
tagged_stops = stops_then number value (byte_in 0 1) kind_of (byte_stops 0 1) kind_stops

value_stops : (texts : Bool) → Stopping value (value_at texts)
unfolding value_at
value_stops true = tagged_stops
value_stops false = plain_stops

option_parts_stop : Stopping option (option_parts true)
unfolding option_parts
option_parts_stop =
    stops_then number option (byte_in 0 1) (λ flag. if flag == 0 then given None else (value_at true >>= λ v. given (Some v))) (byte_stops 0 1)
    (λ flag. stops_if option (flag == 0) (given None) (value_at true >>= λ v. given (Some v)) (stops_given option None) (stops_last value option (value_at true) Some (value_stops true)))

tagged_option_stops : Stopping option (option_at true)
unfolding option_at
tagged_option_stops = option_parts_stop

option_stops : (texts : Bool) → Stopping option (option_at texts)
option_stops true = tagged_option_stops
option_stops false = plain_option_stops

-- ---- requests

put_stops : (texts : Bool) → Stopping request (put_at texts)
unfolding put_at
put_stops texts =
    stops_then number request key_at (λ k. value_at texts >>= λ v. given (requests.Put k v)) key_stops (λ k. stops_last value request (value_at texts) (requests.Put k) (value_stops texts))

add_stops : Stopping request add_at
unfolding add_at
add_stops =
    stops_then number request key_at (λ k. number_at w64 >>= λ n. given (requests.Add k n)) key_stops (λ k. stops_last number request (number_at w64) (requests.Add k) (number_stops w64))

cput_stops : (texts : Bool) → Stopping request (cput_at texts)
unfolding cput_at
cput_stops texts =
    stops_then number request key_at (λ k. option_at texts >>= λ o. value_at texts >>= λ v. given (requests.CPut k o v)) key_stops
    (λ k. stops_then option request (option_at texts) (λ o. value_at texts >>= λ v. given (requests.CPut k o v)) (option_stops texts)
    (λ o. stops_last value request (value_at texts) (requests.CPut k o) (value_stops texts)))

move_stops : Stopping request move_at
unfolding move_at
move_stops =
    stops_then number request key_at (λ k. key_at >>= λ l. number_at w64 >>= λ n. given (requests.Move k l n)) key_stops
    (λ k. stops_then number request key_at (λ l. number_at w64 >>= λ n. given (requests.Move k l n)) key_stops
    (λ l. stops_last number request (number_at w64) (requests.Move k l) (number_stops w64)))

request_of_stops : (texts : Bool) (tag : ℕ) → Stopping request (request_of texts tag)
unfolding request_of del_at wipe_at split_at
request_of_stops texts tag =
    stops_if request (tag == 1) _ _ (put_stops texts)
    (stops_if request (tag == 2) _ _ add_stops
    (stops_if request (tag == 3) _ _ (cput_stops texts)
    (stops_if request (tag == 4) _ _ (stops_last number request key_at requests.Del key_stops)
    (stops_if request (tag == 5) _ _ (stops_last span request span_at requests.Wipe span_stops)
    (stops_if request (tag == 6) _ _ move_stops
    (stops_last number request key_at requests.Split key_stops))))))

request_stops : (texts : Bool) → Stopping request (request_at texts)
unfolding request_at
request_stops texts = stops_then number request (byte_in 1 7) (request_of texts) (byte_stops 1 7) (request_of_stops texts)

-- ---- replies

reply_of_stops : (texts : Bool) (tag : ℕ) → Stopping reply (reply_of texts tag)
unfolding reply_of old_at now_at count_at range_at
reply_of_stops texts tag =
    stops_if reply (tag == 1) _ _ (stops_last option reply (option_at texts) replies.Old (option_stops texts))
    (stops_if reply (tag == 2) _ _ (stops_last number reply (number_at w64) replies.Now (number_stops w64))
    (stops_if reply (tag == 3) _ _ (stops_given reply replies.Set)
    (stops_if reply (tag == 4) _ _ (stops_last number reply (number_at w64) replies.Count (number_stops w64))
    (stops_last number reply (byte_in 0 7) replies.Range (byte_stops 0 7)))))

reply_stops : (texts : Bool) → Stopping reply (reply_at texts)
unfolding reply_at
reply_stops texts = stops_then number reply (byte_in 1 5) (reply_of texts) (byte_stops 1 5) (reply_of_stops texts)

-- ---- writes and batches

set_stops : (texts : Bool) → Stopping write (set_at texts)
unfolding set_at
set_stops texts =
    stops_then number write key_at (λ k. value_at texts >>= λ v. given (ops.Set k v)) key_stops (λ k. stops_last value write (value_at texts) (ops.Set k) (value_stops texts))

remove_stops : Stopping write remove_at
unfolding remove_at
remove_stops = stops_last number write key_at ops.Remove key_stops

op_stops : (texts : Bool) → Stopping write (op_at texts)
unfolding op_at
op_stops texts =
    stops_then number write (byte_in 1 2) (λ tag. if tag == 1 then set_at texts else remove_at) (byte_stops 1 2)
    (λ tag. stops_if write (tag == 1) (set_at texts) remove_at (set_stops texts) remove_stops)

ops_stop : (texts : Bool) (n : ℕ) → Stopping batch (ops_at texts n)
unfolding ops_at
ops_stop texts zero = stops_given batch []
ops_stop texts (suc n) =
    stops_then write batch (op_at texts) (λ op. ops_at texts n >>= λ more. given (op ∷ more)) (op_stops texts)
    (λ op. stops_last batch batch (ops_at texts n) (λ more. op ∷ more) (ops_stop texts n))

batch_stops : (texts : Bool) → Stopping batch (batch_at texts)
unfolding batch_at
batch_stops texts = stops_then number batch (byte_in 0 16) (ops_at texts) (byte_stops 0 16) (ops_stop texts)

-- ---- commands and payloads

id_stops : Stopping attempt id_at
unfolding id_at
id_stops =
    stops_then number attempt (number_at w16) (λ client. number_at w32 >>= λ seq. number_at w16 >>= λ a. given (record { client = client; seq = seq; attempt = a })) (number_stops w16)
    (λ client. stops_then number attempt (number_at w32) (λ seq. number_at w16 >>= λ a. given (record { client = client; seq = seq; attempt = a })) (number_stops w32)
    (λ seq. stops_last number attempt (number_at w16) (λ a. record { client = client; seq = seq; attempt = a }) (number_stops w16)))

ask_stops : Stopping ask ask_at
unfolding ask_at
ask_stops =
    stops_then number ask (byte_in 1 5) (λ holder. number_at w64 >>= λ prev. number_at w64 >>= λ expires. given (record { holder = holder; prev = prev; expires = expires })) (byte_stops 1 5)
    (λ holder. stops_then number ask (number_at w64) (λ prev. number_at w64 >>= λ expires. given (record { holder = holder; prev = prev; expires = expires })) (number_stops w64)
    (λ prev. stops_last number ask (number_at w64) (λ expires. record { holder = holder; prev = prev; expires = expires }) (number_stops w64)))

command_stops : (texts : Bool) → Stopping command (command_at texts)
unfolding command_at
command_stops texts =
    stops_then attempt command id_at _ id_stops (λ id.
    stops_then number command (number_at w64) _ (number_stops w64) (λ seq.
    stops_then number command (number_at w64) _ (number_stops w64) (λ max.
    stops_then request command (request_at texts) _ (request_stops texts) (λ r.
    stops_then reply command (reply_at texts) _ (reply_stops texts) (λ p.
    stops_last batch command (batch_at texts) (λ b. record { id = id; request = r; batch = b; reply = p; seq = seq; max = max }) (batch_stops texts))))))

payload_of_stops : (texts : Bool) (tag : ℕ) → Stopping payload (payload_of texts tag)
unfolding payload_of
payload_of_stops texts tag =
    stops_if payload (tag == 0) _ _ (stops_given payload payloads.Nothing)
    (stops_if payload (tag == 1) _ _ (stops_last command payload (command_at texts) payloads.Write (command_stops texts))
    (stops_last ask payload ask_at payloads.Lease ask_stops))

tag_stops : (texts : Bool) → Stopping number (tag_at texts)
unfolding tag_at
tag_stops true = byte_stops 1 1
tag_stops false = byte_stops 0 2

version_of_stops : (texts : Bool) → Stopping payload (version_of texts)
unfolding version_of
version_of_stops texts = stops_then number payload (tag_at texts) (payload_of texts) (tag_stops texts) (payload_of_stops texts)

pub payload_stops : Stopping payload payload_at
unfolding payload_at
payload_stops = stops_then number payload (byte_in 1 2) (λ version. version_of (version == 2)) (byte_stops 1 2) (λ version. version_of_stops (version == 2))

-- where reading stops, the field is bad
pub stops_bad : {F : Form} {p : Reader (type_of F)} {left : Left} {place : ℕ} → StopsAt F p left place → p left ≡ bad place
stops_bad (here F p left is refused) = refused
stops_bad (first F G p f left place stops) = ap (λ (r : Result (type_of F × Left) BadField). going_on r f) (stops_bad stops)
stops_bad (behind F G p f left x after place read stops) = ap (λ (r : Result (type_of F × Left) BadField). going_on r f) read ∙ stops_bad stops

-- ---- bad places

place_is : (m n : ℕ) → ◌≡◌ {A = Result Payload BadField} (bad m) (bad n) → m ≡ n
place_is m n h = ap (λ (b : BadField). b.place) (failed_is (record { place = m }) (record { place = n }) h)

-- what is whole is refused by version 2 alone, where it holds no text
refused_whole : (p : Payload) (place : ℕ) (texts held : Bool) → ◌≡◌ {A = Result Payload BadField} (if texts && not held then bad 0 else Ok p) (bad place)
    → (texts ≡ true) × (held ≡ false) × (0 ≡ place)
refused_whole p place true true h = absurd cc
refused_whole p place true false h = (refl, refl, place_is 0 place h)
refused_whole p place false held h = absurd cc

at_end : (bytes : List ℕ) (place : ℕ) (found : Payload × Left) (v : Bool) → (length found.1.bytes == 0) ≡ v → payload_at (whole bytes) ≡ Ok found
    → canonical (begins_with 2 bytes) (if v then Ok found.0 else bad found.1.place) ≡ bad place → IsBadPlace bytes place
at_end bytes place found true none read h =
    let is = refused_whole found.0 place (begins_with 2 bytes) (payload_has_text found.0) h in
    subst (λ (n : ℕ). IsBadPlace bytes n) is.2 (textless found.0 found.1 read (eqb-true _ _ none) is.0 is.1)
at_end bytes place found false more read h =
    let some : 0 < length found.1.bytes = grind (arith, nat_tests) in
    subst (λ (n : ℕ). IsBadPlace bytes n) (place_is found.1.place place h) (end found.0 found.1 read some)

bad_by : (bytes : List ℕ) (place : ℕ) (r : Result (Payload × Left) BadField) → payload_at (whole bytes) ≡ r → canonical (begins_with 2 bytes) (ended r) ≡ bad place → IsBadPlace bytes place
bad_by bytes place (Err e) read h = subst (λ (n : ℕ). IsBadPlace bytes n) (place_is e.place place h) (field e.place (payload_stops (whole bytes) e read))
bad_by bytes place (Ok found) read h = at_end bytes place found (length found.1.bytes == 0) refl read h

bad_so : (bytes : List ℕ) (place : ℕ) → payload_in bytes ≡ bad place → IsBadPlace bytes place
unfolding payload_in all_in
bad_so bytes place h = bad_by bytes place (payload_at (whole bytes)) refl h

so_bad : {bytes : List ℕ} {place : ℕ} → IsBadPlace bytes place → payload_in bytes ≡ bad place
unfolding payload_in all_in
so_bad (field place stops) = rw (stops_bad stops) refl
so_bad (end p after read some) = let more : (length after.bytes == 0) ≡ false = grind (arith, nat_tests) in rw (read, more) refl
so_bad (textless p after read none begins has) = let whole_read : (length after.bytes == 0) ≡ true = grind (arith, nat_tests) in rw (read, whole_read, begins, has) refl

-- bytes are refused with exactly the bad place
pub bad_place : (bytes : List ℕ) (place : ℕ) → (payload_in bytes ≡ bad place) ↔ IsBadPlace bytes place
bad_place bytes place = (bad_so bytes place, λ is. so_bad is)
