-- Words that are field addresses.
use Rattle.std.specs.Prelude.{ℕ, List, [], ◌∷◌, take, drop, Option, codes}
use Rattle.std.specs.Option.{option_map, option_and_then}
use Rattle.words.specs.Chars.{same_word, first_that}
use Rattle.words.specs.Numbers.{number_up_to}
use Rattle.words.specs.declared.address.Space.{Space}
use Rattle.words.specs.declared.address.Space.TheVariants.{Bit as BitSpace, Word as WordSpace}
use Rattle.words.specs.declared.address.Address.{Address}

-- the space of addresses that a word begins with
unfoldable pub address_space : List ℕ → Option Space
address_space w =
    first_that ((same_word (take 3 w) (codes "%IX"), BitSpace) ∷ (same_word (take 3 w) (codes "%IW"), WordSpace) ∷ [])

-- %IX or %IW and a number up to 65535
unfoldable pub address : List ℕ → Option Address
address w =
    option_and_then (λ s. option_map (λ n. record { space = s; number = n }) (number_up_to 65535 (drop 3 w)))
    (address_space w)
