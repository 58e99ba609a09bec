use Rattle.std.proofs.Common.{◌≡◌, ℕ, Bool, List, length, sym, subst, arith, tests, rules}
use Rattle.std.proofs.lemmas.List.{length-map}
use Rattle.protocol.specs.Descriptions.{description_of, described}
use Rattle.protocol.specs.Pairwise.{all}
use Rattle.protocol.specs.Rules.{interface_fits}
use Rattle.protocol.specs.declared.interface.Interface.{Interface}
use Rattle.protocol.proofs.Chains.{all_said}
use Rattle.protocol.proofs.rules.well_formed.Goals as goal
use Rattle.protocol.proofs.rules.well_formed.Goals.{then-table_sized, else-table_sized, then-few_messages, else-few_messages}

-- the interfaces are as many as their descriptions
counted : (r : Bool) (is : List Interface) → r ≡ all (interface_fits (length is)) (described is) → r ≡ all (interface_fits (length (described is))) (described is)
counted r is = subst (λ (n : ℕ). r ≡ all (interface_fits n) (described is)) (sym (length-map is description_of))

pub returns-then-all : goal.returns-then-all
returns-then-all c =
    elim c.if-few_messages.branch [
      | then-few_messages w ↦
          let is = c.args.interfaces.now in
          let k = counted _ is (all_said description_of (interface_fits (length is)) is w.iter.ensures.rest w.all.ensures.ran (λ x b q k. search (rules, tests))) in
          elim c.if-table_sized.branch [ then-table_sized v ↦ search (rules, k) | else-table_sized v ↦ search rules ]
      | else-few_messages w ↦ search rules
    ]

pub returns-else-all : goal.returns-else-all
returns-else-all c =
    elim c.if-few_messages.branch [
      | then-few_messages w ↦
          let is = c.args.interfaces.now in
          let k = counted _ is (all_said description_of (interface_fits (length is)) is w.iter.ensures.rest w.all.ensures.ran (λ x b q k. search (rules, tests))) in
          elim c.if-table_sized.branch [ then-table_sized v ↦ grind (arith, k) | else-table_sized v ↦ grind arith ]
      | else-few_messages w ↦ elim c.if-table_sized.branch [ then-table_sized v ↦ grind arith | else-table_sized v ↦ grind arith ]
    ]
