-- The buffers of the nodes as they can be.
use Rattle.std.proofs.Common.{◌≡◌, ℕ, zero, suc, ◌+◌, ◌-◌, ◌≤◌, List, [], ◌∷◌, ◌++◌, length, get_or, set, replicate, refl, sym, ap, subst, ◌∙◌, arith}
use Rattle.std.proofs.lemmas.List.{length-set}
use Rattle.rp_base.specs.declared.items.Item.{Item}
use Rattle.rp_bufcore.specs.Buffers.{Buffer, start, fresh, buffer_of, given, after_draw, after_publish, after_collect}
use Rattle.rp_bufcore.specs.Events.{Event, draw, publish, collect, step, run, IsSound}
use Rattle.rp_bufcore.proofs.Running.{stays_sound}
use Rattle.rp_bufcore.proofs.Taking.{published_within}
use Rattle.rp_events.specs.Worlds.{World, first_world}
use Rattle.rp_events.specs.Buffered.{Buffered, first_buffered, buffers_at, changed}
use Rattle.rp_lawful.specs.Sound.{IsBufferRun, AreSoundBuffers}

-- what holds of each item and of the default holds of each after one has changed
pub each_set : {X : Type 0} (P : X → Type 0) (xs : List X) (i : ℕ) (x d : X) → ((j : ℕ) → P (get_or xs j d)) → P x → (j : ℕ) → P (get_or (set xs i x) j d)
each_set P [] i x d h p j = h j
each_set P (y ∷ xs) zero x d h p zero = p
each_set P (y ∷ xs) zero x d h p (suc j) = h (suc j)
each_set P (y ∷ xs) (suc i) x d h p zero = h zero
each_set P (y ∷ xs) (suc i) x d h p (suc j) = each_set P xs i x d (λ k. h (suc k)) p j

-- equal ones are the default
pub get_same : {X : Type 0} (n : ℕ) (x : X) (j : ℕ) → get_or (replicate n x) j x ≡ x
get_same zero x j = refl
get_same (suc n) x zero = refl
get_same (suc n) x (suc j) = get_same n x j

run_further : (b : Buffer) (es : List Event) (e : Event) → run b (es ++ e ∷ []) ≡ step (run b es) e
run_further b [] e = refl
run_further b (x ∷ es) e = run_further (step b x) es e

run_on : (b : Buffer) (e : Event) → IsBufferRun b → IsBufferRun (step b e)
run_on b e r = record { events = r.events ++ e ∷ []; is = run_further start r.events e ∙ ap (λ z. step z e) r.is }

pub drawn_run : (b : Buffer) → IsBufferRun b → IsBufferRun (after_draw b)
drawn_run b r = run_on b draw r

pub published_run : (place : ℕ) (item : Item) (b : Buffer) → IsBufferRun b → IsBufferRun (after_publish b place item)
published_run place item b r = run_on b (publish place item) r

pub collected_run : (b : Buffer) → IsBufferRun b → IsBufferRun (after_collect b)
collected_run b r = run_on b collect r

pub start_run : IsBufferRun start
start_run = record { events = []; is = refl }

pub run_sound : (b : Buffer) → IsBufferRun b → IsSound b
run_sound b r = subst IsSound r.is (stays_sound r.events)

pub given_few : (b : Buffer) → IsBufferRun b → length (given b) ≤ 16
given_few b r =
    let few = published_within b.slots in
    let places = (run_sound b r).places in
    omega (arith, few, places)

-- each node's buffers in a list of them
record Eight (bs : List Buffer) : Type 0 where
  eight : length bs ≡ 8
  runs : (range : ℕ) → IsBufferRun (buffer_of bs range)

one_before : (i : ℕ) → i + 1 - 1 ≡ i
one_before i = omega arith

each_eight : (b : Buffered) → AreSoundBuffers b → (i : ℕ) → Eight (get_or b.buffers i fresh)
each_eight b s i = subst (λ j. Eight (get_or b.buffers j fresh)) (one_before i) (record { eight = s.eight (i + 1); runs = s.runs (i + 1) })

from_eight : (w : World) (buffers : List (List Buffer)) → length buffers ≡ length w → ((i : ℕ) → Eight (get_or buffers i fresh)) → AreSoundBuffers (record { nodes = w; buffers = buffers })
from_eight w buffers many each = record { many = many; eight = λ node. (each (node - 1)).eight; runs = λ node range. (each (node - 1)).runs range }

-- where one buffer changes all are as they can be
pub changed_sound : (b : Buffered) (node range : ℕ) (change : Buffer → Buffer) → ((x : Buffer) → IsBufferRun x → IsBufferRun (change x)) → AreSoundBuffers b → AreSoundBuffers (changed b node range change)
changed_sound b node range change keeps s =
    let old : List Buffer = buffers_at b node in
    let new : List Buffer = set old range (change (buffer_of old range)) in
    from_eight b.nodes (set b.buffers (node - 1) new) (length-set b.buffers (node - 1) new ∙ s.many)
    (each_set Eight b.buffers (node - 1) new fresh (each_eight b s)
    (record {
      eight = length-set old range (change (buffer_of old range)) ∙ s.eight node;
      runs = λ k. each_set IsBufferRun old range (change (buffer_of old range)) start (s.runs node) (keeps (buffer_of old range) (s.runs node range)) k;
    }))

-- other nodes, as many, stand beside the same buffers
pub beside_sound : (b : Buffered) (w : World) → length w ≡ length b.nodes → AreSoundBuffers b → AreSoundBuffers (record { nodes = w; buffers = b.buffers })
beside_sound b w size s = record { many = s.many ∙ sym size; eight = s.eight; runs = s.runs }

length_same : {X : Type 0} (n : ℕ) (x : X) → length (replicate n x) ≡ n
length_same zero x = refl
length_same (suc n) x = let more = length_same n x in omega (arith, more)

fresh_eight : Eight fresh
fresh_eight = record { eight = refl; runs = λ range. subst IsBufferRun (sym (get_same 8 start range)) start_run }

pub first_sound : (nodes : ℕ) → length (first_world nodes) ≡ nodes → AreSoundBuffers (first_buffered nodes)
first_sound nodes size =
    from_eight (first_world nodes) (replicate nodes fresh) (length_same nodes fresh ∙ sym size)
    (λ i. subst Eight (sym (get_same nodes fresh i)) fresh_eight)
