-- The line that is printed for a refusal (ours).
use Rattle.std.specs.Prelude.{[], ◌++◌, codes}
use Rattle.std.specs.Fmt.{decimal}
use Rattle.vet_base.specs.Refusal.{refusal_number, refusal_name, limit_word}
use Rattle.vet_base.specs.Words.{Text}
use Rattle.vet_base.specs.declared.refusal.Refusal.{Refusal}
use Rattle.vet_base.specs.declared.refusal.Refusal.TheVariants.{UnknownCriterion, UnknownNode, TwoParties, TooLarge}
use Rattle.vet_base.specs.declared.refusal.Refusal.TheVariants.{CsvRefused, FieldRefused}

-- the details, each after a space
abbrev pub refusal_details : Refusal → Text
refusal_details (UnknownCriterion name) = codes " " ++ name
refusal_details (UnknownNode row) = codes " " ++ decimal row
refusal_details (TwoParties row) = codes " " ++ decimal row
refusal_details (TooLarge limit) = codes " " ++ limit_word limit
refusal_details (CsvRefused row) = codes " " ++ decimal row
refusal_details (FieldRefused path key) = codes " " ++ (path ++ (codes " " ++ key))
refusal_details _ = []

-- the line: the number, the name and the details
abbrev pub refusal_line : Refusal → Text
refusal_line refusal = codes "refused " ++ (decimal (refusal_number refusal)
    ++ (codes " " ++ (refusal_name refusal ++ (refusal_details refusal ++ codes "\n"))))
