-- What `all` over a slice answers, in the words of what its elements say.
use Rattle.std.proofs.Common.{◌≡◌, Bool, List, map, Iter, Bor, sym, ◌∙◌}
use Rattle.std.specs.Iterator.{ChecksAll}
use Rattle.std.specs.Slice.Iter.{iter_rest}
use Rattle.std.proofs.iter.Yields.{fronts}
use Rattle.std.proofs.lemmas.Iterator.{YieldsList-from_slice}
use Rattle.std.proofs.lemmas.Iterator.Search.{all_from_yields_List}
use Rattle.std.proofs.lemmas.List.Folds.{list_all-map}
use Rattle.protocol.specs.Pairwise.{all}
use denote.Param.Members.{Mut, Called}

pub all_said : {A B F : Type 0} {g : Mut F (Bor A × Unit {0}) Bool} {s u : Iter A} {f : F} {r : Bool} (say : A → B) (test : B → Bool) (xs : List A) → iter_rest s ≡ xs → ChecksAll fronts g s f r u → ((x : Bor A) (b : Bool) (q : F) → Called g f (x, tt) b q → (q ≡ f) × (b ≡ test (say x.now))) → r ≡ all test (map say xs)
all_said {u = u} {f} {r} say test xs e ran k = all_from_yields_List (λ x. test (say x)) u f r ran (YieldsList-from_slice xs e) k ∙ sym (list_all-map test say xs)
