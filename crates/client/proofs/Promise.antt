-- Every call goes on with every run, and the law holds where it leaves it.
use Rattle.std.proofs.Common.{ℕ, List, length, Ok, Err, Option, Result, ap, sym, subst}
use Rattle.protocol.specs.declared.refusal.Refusal.{Refusal}
use Rattle.client.specs.Calls.{Call, defined}
use Rattle.client.specs.Coded.{Leaves, Created, Begins}
use Rattle.client.specs.Promise.{Stands}
use Rattle.client.specs.Requests.{Table}
use Rattle.client.specs.Runs.{creation, add, entry, Run, made, called}
use Rattle.client.specs.State.{Moment, Rooms, Reply, Left}
use Rattle.client.specs.declared.connection.Connection.{Connection}
use Rattle.client.specs.declared.object.Object.{Object}
use Rattle.client.proofs.Standard.{standard_over_runs}
use Rattle.client.proofs.Whole.{law_over_runs}

pub stands : (t : Table) (c : Call) (m : Moment) {m' : Moment} {a : Result Reply Refusal} {r : Rooms} → Leaves (defined t m c) a m' r → Stands t c m m'
stands t c m {m' = m'} e h so run =
    let g = subst (Run t (add (entry t m c) h)) (ap (λ (x : Left). x.moment) e) (called run c) in
    (g, law_over_runs t (add (entry t m c) h) m' so g, standard_over_runs t (add (entry t m c) h) m' so g)

-- and a run begins with a creation
pub begins : (number : ℕ) (c s c' s' : List (Option Object)) (r : Result Connection Refusal) → Created number c s r c' s' → Begins number c s r c' s'
begins number c s c' s' (Ok k) w = λ t e g. subst (Run t (creation number (length c) (length s))) (sym (w.1 e)) (made number c s e w.0 g)
begins number c s c' s' (Err e) w = tt
