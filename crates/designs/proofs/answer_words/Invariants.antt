-- The counter counts on the ledger that it is made of.
use Rattle.designs.proofs.answer_words.Given as goal

abbrev pub ghosts-answer : goal.ghosts-answer
ghosts-answer a = record { name = a.blank.name; parts = a.blank.parts }
