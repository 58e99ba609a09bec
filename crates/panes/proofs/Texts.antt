-- Where the first space of a line stands, and a number that has digits.
use Rattle.std.proofs.Common.{◌≡◌, ℕ, ◌+◌, ◌-◌, List, [], ◌∷◌, length, fold, take, drop, Some, None, ltb, sym, refl, ap, ◌∙◌, inl, inr, arith}
use Rattle.std.specs.List.{position, position_or_len}
use Rattle.std.proofs.lemmas.Bool.{cases_lt, cond-true, lt-ltb}
use Rattle.std.proofs.lemmas.List.{take_all, drop_all, take_rest}
use Rattle.std.proofs.lemmas.Option.{cond_some}
use Rattle.panes.specs.Lines.{is_space, word, rest, pushed, number_of}

-- a space ends the word
pub at_space : (line : List ℕ) (i : ℕ) → position is_space line ≡ Some i → (take i line ≡ word line) × (take (length line - (i + 1)) (drop (i + 1) line) ≡ rest line)
at_space line i e =
    let first = (cond_some (ltb (position_or_len is_space line) (length line)) (position_or_len is_space line) i e).1 in
    (ap (λ n. take n line) (sym first), take_rest line (i + 1) ∙ ap (λ n. drop (n + 1) line) (sym first))

-- the line ends with the word
pub no_space : (line : List ℕ) → position is_space line ≡ None → (line ≡ word line) × ([] ≡ rest line)
no_space line e =
    let k = position_or_len is_space line in
    elim (cases_lt k (length line)) [
      | inl l ↦ absurd (cc (cond-true (ltb k (length line)) (Some k) None (lt-ltb k (length line) l), e))
      | inr past ↦ (sym (take_all k line past), sym (drop_all (k + 1) line (omega arith)))
    ]

pub all_digits : (text : List ℕ) → (length text ≡ 0 → ⊥) → number_of text ≡ fold pushed (Some 0) text
all_digits [] some = absurd (some refl)
all_digits (b ∷ bs) some = refl
