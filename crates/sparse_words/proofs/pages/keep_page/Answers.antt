use Rattle.std.proofs.Common.{◌≡◌, length, rules}
use Rattle.std.specs.Prelude.{vec_len, vec_capacity, slice_index, ◌/◌, ◌<◌, ◌^◌}
use Rattle.sparse_words.proofs.Paging.{room_left, place_small, page_made, words_kept}
use Rattle.sparse_words.proofs.pages.keep_page.Goals as goal

pub unwrap-requires : goal.unwrap-requires
unwrap-requires c =
    let l : c.len-end.result ≡ length c.args.kept.now.items = search rules in
    let f : slice_index c.args.places.now.items c.args.page ≡ 0 = search rules in
    c.resize.ensures.succeeds (room_left c.args.places.now.items c.args.kept.now.items c.args.page c.len-end.result (vec_capacity c.args.kept.now) c.requires.pages c.requires.within f l c.requires.room)

pub overflow_cast-end : goal.overflow_cast-end
overflow_cast-end c =
    let l : c.len-end.result ≡ length c.args.kept.now.items = search rules in
    let f : slice_index c.args.places.now.items c.args.page ≡ 0 = search rules in
    let small : c.len-end.result / 256 < 2 ^ 32 = place_small c.args.places.now.items c.args.kept.now.items c.args.page c.len-end.result c.requires.pages c.requires.within f l c.requires.few in
    search (rules, small)

pub returns-clause-pages : goal.returns-clause-pages
returns-clause-pages c =
    let l : c.len-end.result ≡ length c.args.kept.now.items = search rules in
    let f : slice_index c.args.places.now.items c.args.page ≡ 0 = search rules in
    page_made c.args.places.now.items c.args.kept.now.items c.resize.new.self.items c.requires.pages c.args.page c.requires.within f c.len-end.result (vec_len c.args.kept.now) l c.len-end.ensures (rw c.unwrap.ensures at c.resize.ensures.items)

pub returns-clause-words : goal.returns-clause-words
returns-clause-words c i =
    let l : c.len-end.result ≡ length c.args.kept.now.items = search rules in
    let f : slice_index c.args.places.now.items c.args.page ≡ 0 = search rules in
    words_kept c.args.places.now.items c.args.kept.now.items c.resize.new.self.items c.requires.pages c.args.page c.requires.within f c.len-end.result (vec_len c.args.kept.now) l c.len-end.ensures (rw c.unwrap.ensures at c.resize.ensures.items) i
