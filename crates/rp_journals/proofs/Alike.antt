-- A world is told by what its nodes have kept.
use Rattle.std.proofs.Common.{◌≡◌, ℕ, zero, suc, Option, None, Some, [], ◌∷◌, length, refl, sym, ap, subst, ◌∙◌, arith}
use Rattle.std.specs.Prelude.{slice_get}
use Rattle.std.specs.Option.{option_map_or}
use Rattle.rp_events.specs.Nodes.{Node, first_node}
use Rattle.rp_events.specs.Worlds.{World, node_of, sent_by}
use Rattle.rp_events.specs.Lawful.{IsReached}
use Rattle.rp_events.specs.Journals.{replayed, Replays}
use Rattle.rp_journals.specs.Growth.{Begins, SentGrows}
use Rattle.rp_journals.specs.Entries.{ReadsBack, AllReadBack}
use Rattle.rp_journals.specs.Alike.{KeepsSame, AllKeepSame}
use Rattle.rp_journals.proofs.Lists.{begins_refl, begins_nil}
use Rattle.rp_journals.proofs.Reading.{replay_more, reads_back}

some_node : (a b : Node) → ◌≡◌ {A = Option Node} (Some a) (Some b) → a ≡ b
some_node a b e = cc

-- a list of nodes as long as another has a node where the other has one
there_too : (w v : World) → length v ≡ length w → (place : ℕ) (n : Node) → slice_get w place ≡ Some n → (m : Node) × (slice_get v place ≡ Some m)
there_too [] v l place n e = absurd cc
there_too (x ∷ w) [] l place n e = absurd (omega (arith, l))
there_too (x ∷ w) (y ∷ v) l zero n e = (y, refl)
there_too (x ∷ w) (y ∷ v) l (suc place) n e = there_too w v (omega (arith, l)) place n e

same_sent : (w v : World) → AllKeepSame w v → SentGrows w v
same_sent w v s zero = begins_refl []
same_sent w v s (suc place) = go (slice_get w place) refl where
  go : (o : Option Node) → slice_get w place ≡ o → Begins (option_map_or (λ (n : Node). n.sent) o []) (sent_by v (suc place))
  go None is = begins_nil (sent_by v (suc place))
  go (Some n) is =
      let m = there_too w v s.size place n is in
      subst (Begins n.sent) (sym (ap (λ o. option_map_or (λ (k : Node). k.sent) o []) m.1 ∙ (s.each (suc place) n m.0 is m.1).sent)) (begins_refl n.sent)

node_same : (w v : World) → AllReadBack w → Replays v → AllKeepSame w v → (node : ℕ) (n m : Node) → node_of w node ≡ Some n → node_of v node ≡ Some m → m ≡ n
node_same w v reads replays s node n m has is =
    let k : KeepsSame n m = s.each node n m has is in
    let r : ReadsBack w n = reads node n has in
    sym (replays node m is)
    ∙ ap (λ i. replayed v m.requests (first_node i m.nodes) m.journal) k.number
    ∙ ap (λ i. replayed v m.requests (first_node n.node i) m.journal) k.of
    ∙ ap (replayed v m.requests (first_node n.node n.nodes)) k.journal
    ∙ replay_more w v (same_sent w v s) n.requests m.requests (subst (Begins n.requests) (sym k.requests) (begins_refl n.requests)) n.journal r.all (first_node n.node n.nodes)
    ∙ r.is

all_same : (w v : World) → length v ≡ length w → ((place : ℕ) (n m : Node) → slice_get w place ≡ Some n → slice_get v place ≡ Some m → m ≡ n) → v ≡ w
all_same [] [] l h = refl
all_same [] (y ∷ v) l h = absurd (omega (arith, l))
all_same (x ∷ w) [] l h = absurd (omega (arith, l))
all_same (x ∷ w) (y ∷ v) l h = ap (λ z. z ∷ v) (h 0 x y refl refl) ∙ ap (λ z. x ∷ z) (all_same w v (omega (arith, l)) (λ place n m a b. h (suc place) n m a b))

pub told_by_lists : (nodes : ℕ) (w v : World) → IsReached nodes w → Replays v → AllKeepSame w v → v ≡ w
told_by_lists nodes w v r replays s = all_same w v s.size (λ place n m a b. node_same w v (reads_back nodes w r) replays s (suc place) n m a b)
