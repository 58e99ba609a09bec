-- What every call promises of whole runs.
use Rattle.client.specs.Calls.{Call}
use Rattle.client.specs.Law.{Law}
use Rattle.client.specs.Requests.{Table}
use Rattle.client.specs.Runs.{History, add, entry, Run}
use Rattle.client.specs.Standard.{Standard}
use Rattle.client.specs.State.{Moment}
use Rattle.protocol.specs.Words.{Sound}

-- over a table that keeps the rules, every history that reaches the moment that a call finds goes on with that call to the
-- moment that it leaves, and there the whole law holds, and all that the protocol says
abbrev pub Stands : Table → Call → Moment → Moment → Type 0
Stands t c m m' = (h : History) → Sound t → Run t h m → Run t (add (entry t m c) h) m' × Law t (add (entry t m c) h) m' × Standard t (add (entry t m c) h) m'
