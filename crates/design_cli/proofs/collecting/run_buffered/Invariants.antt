-- The origin is what the output holds.
use Rattle.design_cli.proofs.collecting.run_buffered.Given as goal

abbrev pub ghosts-answer_buffered : goal.ghosts-answer_buffered
ghosts-answer_buffered g a = record { start = g.K.Sink.held a.out }
