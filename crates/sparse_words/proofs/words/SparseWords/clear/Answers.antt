use Rattle.std.proofs.Common.{◌≡◌, refl, ℕ, length, ap, sym, ◌∙◌, arith, rules, replicate}
use Rattle.std.specs.Prelude.{vec_len}
use Rattle.std.proofs.lemmas.List.{length-replicate}
use Rattle.sparse_words.specs.Pages.{row_of}
use Rattle.sparse_words.proofs.Paging.{row_length, no_pages, no_words, page_left}
use Rattle.sparse_words.proofs.words.SparseWords.clear.Goals as goal

pub invariant_of-self : goal.invariant_of-self
invariant_of-self c =
    let none = c.fill.ensures.items (λ y e. e) in
    let f = page_left c.self.inside.places.items c.self.inside.kept.items c.truncate.new.self.items 256 c.self.invariant.pages c.truncate.ensures.items refl in
    let l : length c.self.inside.places.items ≡ vec_len c.self.inside.places = search rules in
    let n : length c.fill.new.self.items ≡ vec_len c.self.inside.places = ap length none ∙ length-replicate _ 0 in
    record {
      few = c.self.invariant.few;
      size = n ∙ sym l ∙ c.self.invariant.size;
      room = omega (arith, n, l, c.self.invariant.room, c.truncate.ensures.capacity);
      pages = no_pages _ c.fill.new.self.items c.truncate.new.self.items none f.0 f.1;
    }

pub returns : goal.returns
returns c =
    let none = c.fill.ensures.items (λ y e. e) in
    let v : row_of c.self.inside.count c.self.inside.places.items c.self.inside.kept.items ≡ c.args.self.now = c.self.view_is in
    let f = page_left c.self.inside.places.items c.self.inside.kept.items c.truncate.new.self.items 256 c.self.invariant.pages c.truncate.ensures.items refl in
    no_words _ c.fill.new.self.items c.truncate.new.self.items none f.0 f.1 c.self.inside.count
    ∙ ap (λ (n : ℕ). replicate n 0) (sym (row_length c.self.inside.count c.self.inside.places.items c.self.inside.kept.items) ∙ ap length v)
