use Rattle.std.proofs.Common.{◌≡◌, ◌<◌, length, rules, arith}
use Rattle.std.proofs.lemmas.Grind.{common_steps}
use Rattle.design_lines.proofs.Runs.{no_first_word, first_word_is}
use Rattle.design_lines.proofs.words.first_word.Goals as goal

pub returns-then-is_empty : goal.returns-then-is_empty
returns-then-is_empty c =
    let none : length c.split_at.result.1.now ≡ 0 = grind (arith, common_steps) in
    no_first_word c.args.line.now c.split_at.result.1.now (search rules) none

pub returns : goal.returns
returns c =
    let some : 0 < length c.split_at.result.1.now = grind (arith, common_steps) in
    let h = first_word_is c.args.line.now c.split_at.result.1.now (search rules) some in
    search rules
