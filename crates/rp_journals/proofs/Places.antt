-- Where an attempt was asked.
use Rattle.std.proofs.Common.{◌≡◌, ℕ, suc, true}
use Rattle.rp_base.specs.declared.ids.CmdId.{CmdId}
use Rattle.rp_events.specs.declared.journals.JournalEntry.{JournalEntry}
use Rattle.rp_events.specs.Worlds.{World, is_admission_of, asked_at, was_asked}
use Rattle.rp_events.specs.Lists.{IsWritten}
use Rattle.rp_journals.proofs.Waiting.{any_place}

pub record AskedThere (w : World) (id : CmdId) : Type 0 where
  pub node : ℕ
  pub place : ℕ
  pub e : JournalEntry
  pub is : IsWritten w node place e
  pub asks : is_admission_of id e ≡ true

pub asked_there : (w : World) (id : CmdId) → was_asked w id ≡ true → AskedThere w id
asked_there w id e =
    let k = any_place (asked_at id) w e in
    let j = any_place (is_admission_of id) (k.1).journal k.3 in
    record { node = suc k.0; place = j.0; e = j.1; is = record { n = k.1; has = k.2; here = j.2 }; asks = j.3 }
