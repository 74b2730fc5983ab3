use Rattle.std.proofs.Common.{length}
use Rattle.rp_world.proofs.Onwards.{going_play, fits_play}
use Rattle.rp_world.proofs.worlds.World.play.Goals as goal

pub play_command-requires-clause-going : goal.play_command-requires-clause-going
play_command-requires-clause-going c = going_play c.args.self.now c.args.number c.args.line.now c.requires

pub play_command-requires-clause-fits : goal.play_command-requires-clause-fits
play_command-requires-clause-fits c = fits_play c.args.self.now c.args.number c.args.line.now c.requires

pub play_other-requires-clause-going : goal.play_other-requires-clause-going
play_other-requires-clause-going c = going_play c.args.self.now c.args.number c.args.line.now c.requires

pub play_other-requires-clause-fits : goal.play_other-requires-clause-fits
play_other-requires-clause-fits c = fits_play c.args.self.now c.args.number c.args.line.now c.requires
