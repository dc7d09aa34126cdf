-- What a word store means.
use Rattle.stores.specs.declared.words.Words.{Words}
use Rattle.stores.specs.Meaning.{Meaning}
use Rattle.stores.specs.Words.{meaning_of}

abbrev pub words_meaning : Words → Meaning
words_meaning w = meaning_of w.inputs w.len w.words.now
