-- What is handed to Raft is read back.
use Rattle.std.proofs.Common.{◌≡◌, ℕ, List, [], ◌∷◌, ◌++◌, Ok}
use Rattle.rp_base.proofs.Elements.{all_append}
use Rattle.rp_codec.specs.Reading.{payload_in}
use Rattle.rp_codec.specs.Spelling.{spelling}
use Rattle.rp_request.specs.declared.commands.Payload.{Payload}
use Rattle.rp_replica.specs.Handing.{EachReads, ReadsBack}

pub reads_more : (bs : List (List ℕ)) (b : List ℕ) (p : Payload) → EachReads bs → b ≡ spelling p → payload_in b ≡ Ok p → EachReads (bs ++ b ∷ [])
reads_more bs b p h spelled read = all_append ReadsBack bs (b ∷ []) h ((p, spelled, read), tt)
