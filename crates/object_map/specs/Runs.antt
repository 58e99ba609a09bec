-- Whole runs: a map from its creation on, through any calls in any order.
use Rattle.std.specs.Prelude.{◌≡◌, ℕ, ◌-◌, ◌≤◌, Bool, true, false, ◌&&◌, ◌||◌, List, [], ◌∷◌, is_some, Some, Ok, Err, Option, Result, ◌==◌}
use Rattle.object_map.specs.Laws.{Updates}
use Rattle.object_map.specs.Map.{Map, map_of, creation, lookup, finding, removing, inserting_at, inserting_new, updating}
use Rattle.object_map.specs.Store.{store_of}
use Rattle.object_map.specs.declared.refusal.Refusal.{Refusal}
use Rattle.object_map.specs.declared.map.ObjectMap.{ObjectMap}

-- a call of the map
pub data Call (R : Type 0) : Type 0 where
  find_call : ℕ → Call R
  remove_call : ℕ → Call R
  insert_at_call : ℕ → R → Call R
  insert_new_call : R → Call R
  update_call : (R → R) → ℕ → Call R

-- the map that a call leaves
abbrev pub after : {R : Type 0} → Call R → Map R → Map R
after (find_call n) m = m
after (remove_call n) m = (removing n m).1
after (insert_at_call n r) m = (inserting_at n r m).1
after (insert_new_call r) m = (inserting_new r m).1
after (update_call f n) m = (updating f n m).1

-- the numbers used so far, newest first: a number is used when an insertion at it is accepted
abbrev pub History : Type 0
History = List ℕ

-- a number that an accepted call answered, before the others
abbrev pub noted : {T : Type 0} → (T → ℕ) → Result T Refusal → History → History
noted f (Ok x) h = f x ∷ h
noted f (Err _) h = h

-- the numbers used once a call is done
abbrev pub using_now : {R : Type 0} → Call R → Map R → History → History
using_now (find_call n) m h = h
using_now (remove_call n) m h = h
using_now (insert_at_call n r) m h = noted (λ _. n) (inserting_at n r m).0 h
using_now (insert_new_call r) m h = noted (λ n. n) (inserting_new r m).0 h
using_now (update_call f n) m h = h

-- the map over other rooms
abbrev pub over : {R : Type 0} → List (Option R) → List (Option R) → Map R → Map R
over c s m = record { client = store_of c m.client.used; server = store_of s m.server.used; client_places = m.client_places; server_places = m.server_places }

-- a run: a creation, then calls, each on rooms with whatever contents
pub data Run {R : Type 0} : History → Map R → Type 0 where
  created : (c s c' s' : List (Option R)) (o : ObjectMap) → creation c s ≡ (Ok o, c', s') → Run [] (map_of o c' s')
  lends : {h : History} {m : Map R} → Run h m → (c s : List (Option R)) → Run h (over c s m)
  calls : {h : History} {m : Map R} → Run h m → (c : Call R) → Run (using_now c m h) (after c m)

-- n is among the numbers
abbrev pub member : ℕ → History → Bool
member n [] = false
member n (x ∷ h) = n == x || member n h

-- n is the first number of a range
abbrev pub first : ℕ → Bool
first n = n == 1 || n == 0xFF00_0000

-- each number is the first of its range, or the one before it was used before it
abbrev pub dense : History → Bool
dense [] = true
dense (n ∷ h) = (first n || member (n - 1) h) && dense h

-- what holds at the end of every run
pub record Law {R : Type 0} (h : History) (m : Map R) : Type 0 where
  -- no number is used before the one before it
  pub in_order : dense h ≡ true
  -- what holds a record has been used
  pub known : (n : ℕ) → is_some (lookup n m) ≡ true → member n h ≡ true

-- what a call does to every run that it goes on: the run goes on to what the call leaves, the law holds there, and no length falls
abbrev pub Stands : {R : Type 0} → Call R → Map R → Map R → Type 0
Stands c m m' =
    (h : History) → Run h m → Run (using_now c m h) m' × Law (using_now c m h) m' × (m.client.used ≤ m'.client.used) × (m.server.used ≤ m'.server.used)

-- what a creation begins
abbrev pub Begins : {R : Type 0} → Result ObjectMap Refusal → List (Option R) → List (Option R) → Type 0
Begins (Ok o) c s = Run [] (map_of o c s) × ((n : ℕ) → is_some (lookup n (map_of o c s)) ≡ false)
Begins (Err _) c s = Unit {0}

-- what update comes to by f: what it answers and leaves, what that is to a reader of the map, and that each run goes on
pub record UpdatesWith {R : Type 0} (f : R → R) (n : ℕ) (m : Map R) (answer : Result (Unit {0}) Refusal) (m' : Map R) : Type 0 where
  pub defined : (answer, m') ≡ updating f n m
  pub changes : Updates f n m answer m'
  pub stands : Stands (update_call f n) m m'

-- what update comes to by a call: the map is updated by a function that gives, at the record that is found, what the call may give
pub record UpdatesBy {R : Type 0} (may_give : R → R → Type 0) (n : ℕ) (m : Map R) (answer : Result (Unit {0}) Refusal) (m' : Map R) : Type 0 where
  pub f : R → R
  pub follows : (r : R) → finding n m ≡ Ok (Some r) → may_give r (f r)
  pub updates : UpdatesWith f n m answer m'
