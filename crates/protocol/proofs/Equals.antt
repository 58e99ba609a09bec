-- What the derived comparisons of descriptions test is `same_message` and `same_description`.
use Rattle.std.proofs.Common.{◌≡◌, ◌&&◌, eqb, List, map, length, take, sym, ap, ◌∙◌, rules}
use Rattle.std.specs.Cmp.Derive.Mapped.{pointwise-map}
use Rattle.std.specs.Bool.{beq}
use Rattle.std.specs.Cmp.Lexicographic.{pointwise_decides}
use Rattle.std.specs.List.{starts_with, take-map}
use Rattle.std.specs.Option.{option_eq}
use Rattle.std.proofs.lemmas.List.{length-map}
use Rattle.std.proofs.lemmas.Bool.Decides.{Decides-like, same_from_decides}
use Rattle.protocol.specs.Core.{core}
use Rattle.protocol.specs.Descriptions.{message_of, description_of, described}
use Rattle.protocol.specs.Equal.{identical, same_message, same_description}
use Rattle.protocol.specs.Pairwise.{alike}
use Rattle.protocol.specs.Rules.{begins_with_core}
use Rattle.protocol.specs.declared.argument.ArgumentType.{ArgumentType}
use Rattle.protocol.specs.declared.interface.Interface.{Interface}
use Rattle.protocol.specs.declared.interface.MessageDesc.{MessageDesc}
use Rattle.protocol.specs.contracts.argument.ArgumentTypePartialEq.TheImpl as kinds
use Rattle.protocol.specs.contracts.interface.InterfacePartialEq.TheImpl as interfaces
use Rattle.protocol.specs.contracts.interface.MessageDescPartialEq.TheImpl as messages
use Rattle.protocol.proofs.Decisions.{description_decides}

kind_is : (a b : ArgumentType) → kinds.eq-value.it a b ≡ identical a b
kind_is a b = search rules

message_is : (a b : MessageDesc) → messages.eq-value.it a b ≡ same_message (message_of a) (message_of b)
message_is a b = λ i. alike (λ x y. kind_is x y i) a.signature.now b.signature.now && (beq a.is_destructor b.is_destructor && (option_eq eqb a.child_interface b.child_interface && alike eqb a.arg_interfaces.now b.arg_interfaces.now))

messages_are : (xs ys : List MessageDesc) → alike messages.eq-value.it xs ys ≡ alike same_message (map message_of xs) (map message_of ys)
messages_are xs ys = (λ i. alike (λ x y. message_is x y i) xs ys) ∙ sym (pointwise-map message_of same_message xs ys)

description_is : (a b : Interface) → interfaces.eq-value.it a b ≡ same_description (description_of a) (description_of b)
description_is a b = λ i. alike eqb a.name.now b.name.now && (messages_are a.requests.now b.requests.now i && messages_are a.events.now b.events.now i)

pub starts_with_core : (is first : List Interface) → described first ≡ core → starts_with interfaces.eq-value.it is first ≡ begins_with_core (described is)
starts_with_core is first e =
    let n : length first ≡ 4 = sym (length-map first description_of) ∙ ap length e in
    (λ i. alike (λ x y. description_is x y i) first (take (n i) is))
    ∙ sym (pointwise-map description_of same_description first (take 4 is))
    ∙ (λ i. alike same_description (e i) (sym (take-map description_of 4 is) i))
    ∙ same_from_decides _ _ (Decides-like _ sym sym (pointwise_decides description_decides core (take 4 (described is)))) (pointwise_decides description_decides (take 4 (described is)) core)
