-- The line of an exemption, written part by part.
use Rattle.std.proofs.Common.{◌≡◌, [], ◌∷◌, ◌++◌, append_assoc}
use Rattle.vet_base.specs.Words.{Text}

-- a number and a day, the columns of a version, a word, the criteria, and the end of the line
pub written : (old one two three four five number day name version word criteria : Text)
    → one ≡ old ++ number
    → two ≡ one ++ (32 ∷ (day ++ 32 ∷ []))
    → three ≡ two ++ (name ++ (32 ∷ (version ++ 32 ∷ [])))
    → four ≡ three ++ (word ++ 32 ∷ [])
    → five ≡ four ++ criteria
    → five ++ 10 ∷ [] ≡ old ++ (number ++ (32 ∷ (day ++ (32 ∷ (name ++ (32 ∷ (version ++ (32 ∷ (word
    ++ (32 ∷ (criteria ++ 10 ∷ [])))))))))))
written old one two three four five number day name version word criteria first second third fourth fifth =
    rw (fifth, fourth, third, second, first) (simp append_assoc)
