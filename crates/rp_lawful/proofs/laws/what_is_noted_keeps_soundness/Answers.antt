use Rattle.rp_lawful.proofs.laws.what_is_noted_keeps_soundness.Goals as goal
use Rattle.rp_lawful.proofs.Beside.{beside_leads, draw_leads, handled_leads}
use Rattle.rp_lawful.proofs.Lines.{noted_leads}

pub returns : goal.returns
returns c = record {
  noted = λ k p s line text. noted_leads k p s line text;
  draw = λ k p s id b is draw. draw_leads k p s id b is draw;
  handled = λ k p s sender number parcel is. handled_leads k p s sender number parcel is;
  loss = λ k p s percent salt few wide. beside_leads k p s p.handled (record { percent = percent; salt = salt }) p.notes (record { many = s.handling.many; within = s.handling.within }) (few, wide);
}
