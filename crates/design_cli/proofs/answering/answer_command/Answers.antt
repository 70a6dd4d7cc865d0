use Rattle.design_cli.proofs.Runnings.{check_ends, replay_ends, request_ends, table_ends, workload_ends}
use Rattle.design_cli.proofs.answering.answer_command.Goals as goal

pub returns-in-On-clause-ends : goal.returns-in-On-clause-ends
returns-in-On-clause-ends g c = request_ends c.args.command c.in-On.request c.in-On.is _ _ _ _ c.answer_on.result _ _ c.answer_on.ensures.ends c.answer_on.ensures.answered c.answer_on.ensures.offer c.answer_on.ensures.left

pub returns-in-Check-clause-ends : goal.returns-in-Check-clause-ends
returns-in-Check-clause-ends g c = check_ends c.args.command _ _ _ _ _ c.in-Check.asked c.answer_check.result c.in-Check.is c.answer_check.ensures.ends c.answer_check.ensures.answered c.answer_check.ensures.no_offer

pub returns-in-Replay-clause-ends : goal.returns-in-Replay-clause-ends
returns-in-Replay-clause-ends g c = replay_ends c.args.command _ _ _ _ _ c.answer_replay.result c.in-Replay.is c.answer_replay.ensures.ends c.answer_replay.ensures.answered c.answer_replay.ensures.no_offer

pub returns-in-Workload-clause-ends : goal.returns-in-Workload-clause-ends
returns-in-Workload-clause-ends g c = workload_ends c.args.command _ _ _ _ _ c.in-Workload.n c.answer_draws.result c.in-Workload.is c.answer_draws.ensures.ends c.answer_draws.ensures.answered c.answer_draws.ensures.no_offer

pub returns-in-Table-clause-ends : goal.returns-in-Table-clause-ends
returns-in-Table-clause-ends g c = table_ends c.args.command _ _ _ _ (g.K.Sink.held c.args.out.now) c.in-Table.ask c.in-Table.workers c.in-Table.is
