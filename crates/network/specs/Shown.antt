-- What is written of a message.
use Rattle.std.specs.Prelude.{ℕ, List, ◌++◌, codes, decimal}
use Rattle.network.specs.declared.message.Kind.{Kind}
use Rattle.network.specs.declared.message.Kind.TheVariants.{Read, Write, Reply}
use Rattle.network.specs.Messages.{Plain}

abbrev pub shown_kind : Kind → List ℕ
shown_kind Read = codes "READ"
shown_kind Write = codes "WRITE"
shown_kind Reply = codes "REPLY"

abbrev pub shown_message : Plain → List ℕ
shown_message m =
    shown_kind m.kind ++ codes " from " ++ decimal m.from ++ codes " to " ++ decimal m.to
    ++ codes ", address " ++ decimal m.address ++ codes ", word " ++ decimal m.word
