-- The core over messages that stands in a core.
use Rattle.std.specs.Prelude.{◌≡◌, map}
use Rattle.std.specs.Option.{option_map, option_and_then}
use Rattle.exchange_core.specs.declared.last.Last.TheVariants.{Whole}
use Rattle.exchange_core.specs.HeldMessages as messages
use Rattle.exchange_core.specs.MessageCoreValue.{MessageCoreValue}
use Rattle.exchange_core.specs.Held.{Table}
use Rattle.exchange_core.specs.CoreValue.{CoreValue, core_of}

-- the evaluations that are known as a whole
abbrev pub wholes : messages.Table → Table
wholes table = map (map (option_and_then messages.whole_in)) table

-- the table in which these are known as a whole
abbrev pub as_wholes : Table → messages.Table
as_wholes table = map (map (option_map Whole)) table

-- nothing is known by its message alone
abbrev pub AreWhole : messages.Table → Type 0
AreWhole table = table ≡ as_wholes (wholes table)

-- the core with the same parts that knows what is known as a whole
abbrev pub core_in : MessageCoreValue → CoreValue
core_in core =
    core_of core.plant core.resource core.first core.incarnation core.heard core.max_number core.kept (wholes core.table)
