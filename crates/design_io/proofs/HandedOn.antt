-- What was appended to nothing and then handed on, all of it at `Ok` and else a proper prefix of it.
use Rattle.std.proofs.Common.{◌≡◌, ℕ, ◌≤◌, List, [], length, take, min, refl, subst, ap, ◌∙◌, arith, append-nil, length-take, Option, None, Some, Result, Ok, Err}
use Rattle.std.proofs.lemmas.List.{take-take}
use Rattle.std.specs.Result.{IsOk}
use Rattle.std.specs.Io.KnownBytes.{Appends, Keeps}
use Rattle.design_io.specs.Pieces.{AppendsPart, AppendsWhole}

-- a piece
pub AppendsWhole-on : {T E : Type 0} (a b : Option (List ℕ)) (r : Result T E) (handed bs : List ℕ) → Appends (Some []) (Some handed) bs → AppendsWhole a b r handed → AppendsWhole a b r bs
AppendsWhole-on a b r handed bs is on = subst (AppendsWhole a b r) is on

-- a part of a piece stays one
pub AppendsPart-on : {T E : Type 0} (a b : Option (List ℕ)) (r : Result T E) (handed bs : List ℕ) → AppendsPart (Some []) (Some handed) bs → AppendsWhole a b r handed → AppendsPart a b bs
AppendsPart-on a b (Ok x) handed bs part on = record { count = part.count; short = part.short; appended = subst (Appends a b) part.appended on }
AppendsPart-on a b (Err e) handed bs part on =
    let is : handed ≡ take part.count bs = part.appended in
    let n : length handed ≡ min part.count (length bs) = ap length is ∙ length-take part.count bs in
    let within : on.count ≤ part.count = omega (arith, on.short, n) in
    record {
      count = on.count;
      short = omega (arith, on.short, n);
      appended = subst (Appends a b) (ap (take on.count) is ∙ take-take on.count part.count bs within) on.appended;
    }

Keeps-none : (a b : Option (List ℕ)) → Appends a b [] → Keeps a b
Keeps-none None b is = tt
Keeps-none (Some x) None is = absurd is
Keeps-none (Some x) (Some y) is = is ∙ append-nil x

-- nothing: then no write failed
pub Keeps-on : {T E : Type 0} (a b : Option (List ℕ)) (r : Result T E) (handed : List ℕ) → Keeps (Some []) (Some handed) → AppendsWhole a b r handed → IsOk r × Keeps a b
Keeps-on a b (Ok x) handed is on = (refl, Keeps-none a b (subst (Appends a b) is on))
Keeps-on a b (Err e) handed is on = absurd (omega (arith, on.short, ap length is))
