use Rattle.std.proofs.Common.{refl}
use Rattle.rp_serving.proofs.Rounding.{mail_new}
use Rattle.rp_serving.proofs.mails.Mail.new.Goals as goal

pub returns : goal.returns
returns c = mail_new _ c.new.result c.new-2.result c.new-3.result c.new-4.result c.new-5.result refl refl
    c.new.ensures c.new-2.ensures c.new-3.ensures c.new-4.ensures c.new-5.ensures
