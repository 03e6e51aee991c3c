use Rattle.std.proofs.Common.{◌++◌, ◌∙◌}
use Rattle.cable_world.proofs.Unarmed.{image_kept, never_refused, opened_fine, rose_starved}
use Rattle.cable_world.proofs.leaving.open_unarmed.Goals as goal

pub book_of-requires-clause-failed : goal.book_of-requires-clause-failed
book_of-requires-clause-failed c = λ failed.
    let told = c.open_book-opened.ensures.told tt in
    let part = told.calls.first ++ told.calls.reads in
    let fine = opened_fine c.args.station.now c.open_book-opened.new.station part c.requires.unarmed c.starved.ensures.played c.starved-starved.ensures.played told.keeps.plan told.calls.calls in
    c.starved-starved.ensures.value
    ∙ rose_starved c.args.station.now c.open_book-opened.new.station part c.starved.ensures.played c.starved.ensures.short c.requires.unarmed.unstarved c.starved-starved.ensures.played c.starved-starved.ensures.short
    told.calls.calls fine.none (c.open_book-opened.ensures.cause failed)

pub returns-clause-image : goal.returns-clause-image
returns-clause-image c =
    let told = c.open_book-opened.ensures.told tt in
    let part = told.calls.first ++ told.calls.reads in
    let fine = opened_fine c.args.station.now c.open_book-opened.new.station part c.requires.unarmed c.starved.ensures.played c.starved-starved.ensures.played told.keeps.plan told.calls.calls in
    image_kept c.args.station.now c.open_book-opened.new.station part c.requires.unarmed fine told.calls.calls told.journal

pub book_of-requires-clause-held : goal.book_of-requires-clause-held
book_of-requires-clause-held c = λ place is.
    never_refused c.a_book_is_refused_at_one_place.ensures.never_both c.args.role c.args.station.now c.requires.unarmed c.requires.book place (c.open_book-opened.ensures.refused tt place is)
