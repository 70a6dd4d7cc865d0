use Rattle.std.proofs.Common.{◌≡◌, sym, subst, ◌∙◌, arith, ◌+◌, ◌*◌, set}
use Rattle.std.proofs.lemmas.List.{get_or_read}
use Rattle.std.specs.Prelude.{ℕ, slice_index, ◌/◌, ◌%◌}
use Rattle.sparse_words.specs.Pages.{ArePages, word_at}
use Rattle.sparse_words.proofs.Paging.{word_put, word_own, word_others}
use Rattle.sparse_words.proofs.pages.put.Goals as goal

pub returns-clause-pages : goal.returns-clause-pages
returns-clause-pages c =
    let p : slice_index c.keep_page.new.places.items (c.args.i / 256) ≡ c.index.result.now
    = sym (get_or_read c.keep_page.new.places.items (c.args.i / 256) c.index.result.now (omega (arith, c.requires.within, c.keep_page.ensures.count)) c.index.ensures 0) in
    subst (λ (n : ℕ). ArePages c.keep_page.new.places.items (set c.keep_page.new.kept.items (n * 256 + c.args.i % 256) c.args.word)) p
    (word_put c.keep_page.new.places.items c.keep_page.new.kept.items c.keep_page.ensures.pages c.args.i c.args.word c.keep_page.ensures.own)

pub returns-clause-own : goal.returns-clause-own
returns-clause-own c =
    let p : slice_index c.keep_page.new.places.items (c.args.i / 256) ≡ c.index.result.now
    = sym (get_or_read c.keep_page.new.places.items (c.args.i / 256) c.index.result.now (omega (arith, c.requires.within, c.keep_page.ensures.count)) c.index.ensures 0) in
    subst (λ (n : ℕ). word_at c.keep_page.new.places.items (set c.keep_page.new.kept.items (n * 256 + c.args.i % 256) c.args.word) c.args.i ≡ c.args.word) p
    (word_own c.keep_page.new.places.items c.keep_page.new.kept.items c.keep_page.ensures.pages c.args.i c.args.word c.keep_page.ensures.own)

pub returns-clause-others : goal.returns-clause-others
returns-clause-others c j n =
    let p : slice_index c.keep_page.new.places.items (c.args.i / 256) ≡ c.index.result.now
    = sym (get_or_read c.keep_page.new.places.items (c.args.i / 256) c.index.result.now (omega (arith, c.requires.within, c.keep_page.ensures.count)) c.index.ensures 0) in
    subst (λ (x : ℕ). word_at c.keep_page.new.places.items (set c.keep_page.new.kept.items (x * 256 + c.args.i % 256) c.args.word) j ≡ word_at c.keep_page.new.places.items c.keep_page.new.kept.items j) p
    (word_others c.keep_page.new.places.items c.keep_page.new.kept.items c.keep_page.ensures.pages c.args.i c.args.word c.keep_page.ensures.own j n)
    ∙ c.keep_page.ensures.words j
