use Rattle.std.proofs.Common.{◌≡◌, ℕ, List, ◌+◌, ◌*◌, ◌<◌, length, ap, sym, ◌∙◌, arith, rules}
use Rattle.std.specs.Prelude.{slice_index, vec_len, ◌/◌, ◌%◌}
use Rattle.std.proofs.lemmas.List.{get_or_read}
use Rattle.sparse_words.specs.Pages.{row_of, word_at}
use Rattle.sparse_words.proofs.Paging.{index_within, row_get, row_length}
use Rattle.sparse_words.proofs.words.SparseWords.get.Goals as goal

pub index-requires : goal.index-requires
index-requires c =
    let v : row_of c.self.inside.count c.self.inside.places.items c.self.inside.kept.items ≡ c.args.self.now = c.self.view_is in
    let l : vec_len c.self.inside.places ≡ length c.self.inside.places.items = search rules in
    omega (arith, c.requires, ap length v, row_length c.self.inside.count c.self.inside.places.items c.self.inside.kept.items, c.self.invariant.size, l)

pub index-requires-2 : goal.index-requires-2
index-requires-2 c =
    let v : row_of c.self.inside.count c.self.inside.places.items c.self.inside.kept.items ≡ c.args.self.now = c.self.view_is in
    let h : c.args.i / 256 < length c.self.inside.places.items
    = omega (arith, c.requires, ap length v, row_length c.self.inside.count c.self.inside.places.items c.self.inside.kept.items, c.self.invariant.size) in
    let p = get_or_read c.self.inside.places.items (c.args.i / 256) c.index.result.now h c.index.ensures 0 in
    let l : vec_len c.self.inside.kept ≡ length c.self.inside.kept.items = search rules in
    omega (arith, p, l, index_within c.self.inside.places.items c.self.inside.kept.items c.self.invariant.pages c.args.i)

pub returns : goal.returns
unfolding word_at
returns c =
    let v : row_of c.self.inside.count c.self.inside.places.items c.self.inside.kept.items ≡ c.args.self.now = c.self.view_is in
    let i : c.args.i < c.self.inside.count = omega (arith, c.requires, ap length v, row_length c.self.inside.count c.self.inside.places.items c.self.inside.kept.items) in
    let p = get_or_read c.self.inside.places.items (c.args.i / 256) c.index.result.now (omega (arith, i, c.self.invariant.size)) c.index.ensures 0 in
    let w : c.index.result.now * 256 + c.args.i % 256 < length c.self.inside.kept.items = omega (arith, p, index_within c.self.inside.places.items c.self.inside.kept.items c.self.invariant.pages c.args.i) in
    get_or_read c.self.inside.kept.items (c.index.result.now * 256 + c.args.i % 256) c.index-2.result.now w c.index-2.ensures 0
    ∙ ap (λ (n : ℕ). slice_index c.self.inside.kept.items (n * 256 + c.args.i % 256)) p
    ∙ sym (row_get c.self.inside.count c.self.inside.places.items c.self.inside.kept.items c.args.i i)
    ∙ ap (λ (xs : List ℕ). slice_index xs c.args.i) v
