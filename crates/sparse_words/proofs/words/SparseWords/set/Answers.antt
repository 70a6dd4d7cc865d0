use Rattle.std.proofs.Common.{◌≡◌, ℕ, List, ◌<◌, length, ap, ◌∙◌, arith, set}
use Rattle.sparse_words.specs.Pages.{row_of, word_at}
use Rattle.sparse_words.proofs.Paging.{row_length, row_set}
use Rattle.sparse_words.proofs.words.SparseWords.set.Goals as goal

pub put-requires-clause-within : goal.put-requires-clause-within
put-requires-clause-within c =
    let v : row_of c.self.inside.count c.self.inside.places.items c.self.inside.kept.items ≡ c.args.self.now = c.self.view_is in
    omega (arith, c.requires, ap length v, row_length c.self.inside.count c.self.inside.places.items c.self.inside.kept.items, c.self.invariant.size)

pub returns : goal.returns
returns c =
    let v : row_of c.self.inside.count c.self.inside.places.items c.self.inside.kept.items ≡ c.args.self.now = c.self.view_is in
    let i : c.args.i < c.self.inside.count = omega (arith, c.requires, ap length v, row_length c.self.inside.count c.self.inside.places.items c.self.inside.kept.items) in
    row_set c.self.inside.count (word_at c.self.inside.places.items c.self.inside.kept.items) (word_at c.put.new.places.items c.put.new.kept.items) c.args.i c.args.word i c.put.ensures.own c.put.ensures.others
    ∙ ap (λ (xs : List ℕ). set xs c.args.i c.args.word) v
