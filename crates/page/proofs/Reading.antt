-- An escaped text is read as the text.
use Rattle.std.proofs.Common.{◌≡◌, ℕ, List, [], ◌∷◌, ◌++◌, ◌==◌, false, inl, inr, arith, ap, sym, subst, refl, ◌∙◌}
use Rattle.std.proofs.lemmas.Bool.Decides.{eqb_tells}
use Rattle.page.specs.Page.{escaped, escaped_sign}
use Rattle.page.specs.Reading.{unescaped}

-- this sign is read as itself, whatever stands behind it
abbrev IsRead : List ℕ → ℕ → Type 0
IsRead page c = unescaped [] (escaped_sign c ++ page) ≡ c ∷ unescaped [] page

and_read : (page : List ℕ) → IsRead page 38
unfolding unescaped
and_read page = refl

less_read : (page : List ℕ) → IsRead page 60
unfolding unescaped
less_read page = refl

greater_read : (page : List ℕ) → IsRead page 62
unfolding unescaped
greater_read page = refl

return_read : (page : List ℕ) → IsRead page 13
unfolding unescaped
return_read page = refl

nul_read : (page : List ℕ) → IsRead page 0
unfolding unescaped
nul_read page = refl

other_read : (page : List ℕ) (c : ℕ) → (c == 38) ≡ false → (c == 60) ≡ false → (c == 62) ≡ false → (c == 13) ≡ false → (c == 0) ≡ false → IsRead page c
unfolding unescaped
other_read page c a b d e f = grind (arith, a, b, d, e, f)

sign_read : (page : List ℕ) (c : ℕ) → IsRead page c
sign_read page c = elim (eqb_tells c 38) [
  | inl is ↦ subst (IsRead page) (sym is.1) (and_read page)
  | inr a ↦ elim (eqb_tells c 60) [
    | inl is ↦ subst (IsRead page) (sym is.1) (less_read page)
    | inr b ↦ elim (eqb_tells c 62) [
      | inl is ↦ subst (IsRead page) (sym is.1) (greater_read page)
      | inr d ↦ elim (eqb_tells c 13) [
        | inl is ↦ subst (IsRead page) (sym is.1) (return_read page)
        | inr e ↦ elim (eqb_tells c 0) [
          | inl is ↦ subst (IsRead page) (sym is.1) (nul_read page)
          | inr f ↦ other_read page c a.0 b.0 d.0 e.0 f.0
        ]
      ]
    ]
  ]
]

pub escaped_read : (text : List ℕ) → unescaped [] (escaped text) ≡ text
unfolding unescaped
escaped_read [] = refl
escaped_read (c ∷ text) = sign_read (escaped text) c ∙ ap (λ l. c ∷ l) (escaped_read text)
