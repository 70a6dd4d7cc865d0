use Rattle.std.proofs.Common.{◌≡◌, refl, ◌+◌, length, ap, ◌∙◌, arith}
use Rattle.std.specs.Prelude.{vec_len, ◌/◌}
use Rattle.std.proofs.lemmas.List.{length-replicate}
use Rattle.sparse_words.proofs.Paging.{no_pages, no_words, first_page}
use Rattle.sparse_words.proofs.words.SparseWords.new.Goals as goal

pub invariant_of-result : goal.invariant_of-result
invariant_of-result c =
    let none = c.in_ok-places.ensures.items_if_clones_equal (λ y e. e) in
    let n : length c.in_ok-places.places.items ≡ c.args.count / 256 + 1 = ap length none ∙ length-replicate (c.args.count / 256 + 1) 0 in
    let f = first_page c.resize.new.self.items c.in_ok-kept.kept.items 256 (vec_len c.in_ok-kept.kept) (rw c.unwrap.ensures at c.resize.ensures.items) c.in_ok-kept.ensures.items c.in_ok-kept.ensures.len refl in
    record {
      few = c.requires;
      size = n;
      room = omega (arith, n, c.in_ok-kept.ensures.exact, c.resize.ensures.capacity);
      pages = no_pages (c.args.count / 256 + 1) c.in_ok-places.places.items c.resize.new.self.items none f.0 (λ j h. f.1 j);
    }

pub returns : goal.returns
returns c =
    let none = c.in_ok-places.ensures.items_if_clones_equal (λ y e. e) in
    let f = first_page c.resize.new.self.items c.in_ok-kept.kept.items 256 (vec_len c.in_ok-kept.kept) (rw c.unwrap.ensures at c.resize.ensures.items) c.in_ok-kept.ensures.items c.in_ok-kept.ensures.len refl in
    no_words (c.args.count / 256 + 1) c.in_ok-places.places.items c.resize.new.self.items none f.0 (λ j h. f.1 j) c.args.count
