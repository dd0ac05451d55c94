-- The bytes of a word, wherever they lie.
use Rattle.std.specs.Prelude.{ℕ, List, string_bytes}
use Rattle.words.specs.declared.text.Letters.{Letters}
use Rattle.words.specs.declared.text.Letters.TheVariants.{Short, Long}

abbrev pub letters_of : Letters → List ℕ
letters_of (Short word) = word
letters_of (Long text) = string_bytes text.value
