use Rattle.std.proofs.Common.{length, ◌++◌}
use Rattle.std.specs.Prelude.{codes}
use Rattle.std.specs.List.{flat_map}
use Rattle.design_io.proofs.Pieces.{AppendsPart-first, AppendsPart-second, AppendsWhole-failed, AppendsWhole-second}
use Rattle.design_lines.specs.Printed.{counted_line}
use Rattle.derivation_text.proofs.ReadBack.{each_text_is_read, ok_any}
use Rattle.derivation_text.proofs.Texts.{framed}
use Rattle.derivation_text.specs.Text.{derivation_lines, numbered_lines}
use Rattle.derivation_text.proofs.printing.print_v1.Goals as goal

pub returns-in_err-write_whole-clause-bytes : goal.returns-in_err-write_whole-clause-bytes
returns-in_err-write_whole-clause-bytes g c =
    let D = c.args.lines.now in
    AppendsWhole-failed (g.K.Sink.held c.args.sink.now) (g.K.Sink.held c.write_whole.new.sink) c.from_residual.result (flat_map (λ line. line) (derivation_lines D)) c.from_residual.ensures.0
    (rw (framed D) (AppendsPart-first (flat_map (λ line. line) (numbered_lines 1 D) ++ counted_line (codes "end") (length D)) (rw (c.bytes.ensures.bytes, c.counted_line.ensures) at c.in_err-write_whole.ensures.bytes)))

pub returns-in_err-write_numbered-clause-bytes : goal.returns-in_err-write_numbered-clause-bytes
returns-in_err-write_numbered-clause-bytes g c =
    let D = c.args.lines.now in
    let before = g.K.Sink.held c.args.sink.now in
    AppendsWhole-failed before (g.K.Sink.held c.write_numbered.new.sink) c.from_residual-in_err-write_numbered.result (flat_map (λ line. line) (derivation_lines D)) c.from_residual-in_err-write_numbered.ensures.0
    (rw (framed D)
    (AppendsPart-second before (counted_line (codes "derivation") 1) (rw (c.bytes.ensures.bytes, c.counted_line.ensures) at c.in_ok-write_whole.ensures.bytes)
    (AppendsPart-first (counted_line (codes "end") (length D)) (rw c.as_slice.ensures at c.in_err-write_numbered.ensures.bytes))))

pub returns-clause-bytes : goal.returns-clause-bytes
returns-clause-bytes g c =
    let D = c.args.lines.now in
    let first = counted_line (codes "derivation") 1 in
    let lines = flat_map (λ line. line) (numbered_lines 1 D) in
    let last = counted_line (codes "end") (length D) in
    let started = g.K.Sink.held c.write_whole.new.sink in
    let numbered = g.K.Sink.held c.write_numbered.new.sink in
    let ended = g.K.Sink.held c.write_whole-2.new.sink in
    rw (framed D)
    (AppendsWhole-second (g.K.Sink.held c.args.sink.now) started ended c.write_whole-2.result first (lines ++ last) (rw (c.bytes.ensures.bytes, c.counted_line.ensures) at c.in_ok-write_whole.ensures.bytes)
    (AppendsWhole-second started numbered ended c.write_whole-2.result lines last (rw c.as_slice.ensures at c.in_ok-write_numbered.ensures.bytes)
    (rw (c.bytes-2.ensures.bytes, c.counted_line-2.ensures, c.len.ensures) at c.write_whole-2.ensures.bytes)))

pub returns-clause-read_back : goal.returns-clause-read_back
returns-clause-read_back g c = ok_any c.write_whole-2.result _ (each_text_is_read c.args.lines.now (rw c.as_slice.ensures at c.in_ok-write_numbered.ensures.each))
