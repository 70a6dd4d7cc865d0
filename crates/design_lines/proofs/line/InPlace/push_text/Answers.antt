use Rattle.std.proofs.Common.{◌∙◌, ◌++◌, ap}
use Rattle.std.proofs.Math.Seq.{take-append-add}
use Rattle.design_lines.proofs.line.InPlace.push_text.Goals as goal

pub returns-clause-text : goal.returns-clause-text
returns-clause-text g c =
    rw (c.truncate.ensures, c.push.ensures, c.len.ensures, c.from.ensures) (take-append-add c.args.self.now c.args.text.bytes c.args.text.len ∙ ap (λ text. c.args.self.now ++ text) c.requires.text.text)
