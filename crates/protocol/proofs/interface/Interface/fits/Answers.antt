use Rattle.std.proofs.Common.{arith, tests, rules}
use Rattle.protocol.specs.Descriptions.{message_of}
use Rattle.protocol.specs.Rules.{request_fits, event_fits}
use Rattle.protocol.proofs.Chains.{all_said}
use Rattle.protocol.proofs.interface.Interface.fits.Goals as goal
use Rattle.protocol.proofs.interface.Interface.fits.Goals.{then-name_fits, else-name_fits}

pub returns-then-all : goal.returns-then-all
returns-then-all c =
    elim c.if-name_fits.branch [
      | then-name_fits w ↦
          search (
            rules,
            all_said message_of (request_fits c.args.count) c.args.self.now.requests.now w.iter.ensures.rest w.all.ensures.ran (λ x b q k. search (rules, tests)),
            all_said message_of (event_fits c.args.count) c.args.self.now.events.now c.iter-then-all.ensures.rest c.all-then-all.ensures.ran (λ x b q k. search (rules, tests)),
          )
      | else-name_fits w ↦ search rules
    ]

pub returns-else-all : goal.returns-else-all
returns-else-all c =
    elim c.if-name_fits.branch [
      | then-name_fits w ↦ grind (arith, all_said message_of (request_fits c.args.count) c.args.self.now.requests.now w.iter.ensures.rest w.all.ensures.ran (λ x b q k. search (rules, tests)))
      | else-name_fits w ↦ grind arith
    ]
