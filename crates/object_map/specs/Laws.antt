-- What the calls do to a map, in the words of a map: by number, and by how many slots are occupied.
use Rattle.std.specs.Prelude.{◌≡◌, ℕ, ◌+◌, ◌<◌, ◌≤◌, true, cond, ◌≢◌, take, is_some, Some, None, Ok, Err, count_by, Result}
use Rattle.std.specs.Option.{option_map}
use Rattle.object_map.specs.Map.{Map, lookup}
use Rattle.object_map.specs.Store.{Store}
use Rattle.object_map.specs.declared.refusal.Refusal.{Refusal}
use Rattle.object_map.specs.declared.refusal.Refusal.TheVariants.{Vacant, ClientFull}

-- how many slots are occupied
abbrev pub occupied_in : {R : Type 0} → Store R → ℕ
occupied_in s = count_by is_some (take s.used s.slots)

-- and in both stores
abbrev pub occupied : {R : Type 0} → Map R → ℕ
occupied m = occupied_in m.client + occupied_in m.server

-- every number but n has what it had
abbrev pub Others : {R : Type 0} → ℕ → Map R → Map R → Type 0
Others n m m' = (k : ℕ) → k ≢ n → lookup k m' ≡ lookup k m

-- a record came to the number n, which was empty
pub record Put {R : Type 0} (n : ℕ) (r : R) (m m' : Map R) : Type 0 where
  pub empty : lookup n m ≡ None
  pub found : lookup n m' ≡ Some r
  pub others : Others n m m'
  pub one_more : occupied m' ≡ occupied m + 1

-- n is the smallest empty client number: all smaller ones are occupied
abbrev pub Smallest : {R : Type 0} → ℕ → Map R → Type 0
Smallest n m = (k : ℕ) → 1 ≤ k → k < n → is_some (lookup k m) ≡ true

-- the number n was emptied, and no other
pub record Emptied {R : Type 0} (n : ℕ) (m m' : Map R) : Type 0 where
  pub gone : lookup n m' ≡ None
  pub others : Others n m m'
  pub one_less : occupied m' + cond (is_some (lookup n m)) 1 0 ≡ occupied m

-- the record at n was changed, and no other
pub record Changed {R : Type 0} (f : R → R) (n : ℕ) (m m' : Map R) : Type 0 where
  pub there : is_some (lookup n m) ≡ true
  pub changed : lookup n m' ≡ option_map f (lookup n m)
  pub others : Others n m m'
  pub as_many : occupied m' ≡ occupied m

-- what insert_at comes to; a refusal changes nothing
abbrev pub Inserts : {R : Type 0} → ℕ → R → Map R → Result (Unit {0}) Refusal → Map R → Type 0
Inserts n r m (Ok _) m' = Put n r m m'
Inserts n r m (Err _) m' = m' ≡ m

-- what client_insert_new comes to; it tells that the client room is full only where each of its numbers is occupied
abbrev pub InsertsNew : {R : Type 0} → R → Map R → Result ℕ Refusal → Map R → Type 0
InsertsNew r m (Ok n) m' = Put n r m m' × (1 ≤ n) × (n ≤ m.client_places) × Smallest n m
InsertsNew r m (Err e) m' = (m' ≡ m) × (e ≡ ClientFull → Smallest (m.client_places + 1) m)

-- what remove comes to
abbrev pub Removes : {R : Type 0} → ℕ → Map R → Result (Unit {0}) Refusal → Map R → Type 0
Removes n m (Ok _) m' = Emptied n m m'
Removes n m (Err _) m' = m' ≡ m

-- what update comes to; it tells that there is no record only where there is none
abbrev pub Updates : {R : Type 0} → (R → R) → ℕ → Map R → Result (Unit {0}) Refusal → Map R → Type 0
Updates f n m (Ok _) m' = Changed f n m m'
Updates f n m (Err e) m' = (m' ≡ m) × (e ≡ Vacant → lookup n m ≡ None)
