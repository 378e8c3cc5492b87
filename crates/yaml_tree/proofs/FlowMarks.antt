-- What the marks of flow forms say of the bytes at a point.
use Rattle.std.proofs.Common.{◌≡◌, ℕ, Bool, true, ◌&&◌, List, [], ◌∷◌, drop, IsCharBoundary, IsUtf8, arith}
use Rattle.std.proofs.lemmas.Bool.{and_parts}
use Rattle.std.proofs.lemmas.Str.{IsCharBoundary-after_ascii}
use Rattle.yaml_tree.specs.Characters.{begins, ends_scalar}
use Rattle.yaml_tree.specs.Flow.{may_be_key, is_key_colon}
use Rattle.yaml_tree.specs.FlowSteps.{BeginsAscii}
use Rattle.yaml_tree.specs.declared.opening.Opening.{Opening}
use Rattle.yaml_tree.specs.declared.opening.Opening.TheVariants.{Plain, Quoted, OpenQuote, FlowList, FlowMap, Header, Outside, Nothing}

-- a text may be cut behind a first byte of ASCII
pub IsCharBoundary-behind_ascii : (here : List ℕ) → BeginsAscii here → IsUtf8 here → IsCharBoundary here 1
IsCharBoundary-behind_ascii [] low utf8 = absurd low
IsCharBoundary-behind_ascii (byte ∷ bytes) low utf8 = IsCharBoundary-after_ascii (byte ∷ bytes) 0 utf8 (omega arith) low

-- where a key ends, a `:` stands
pub keyed-begins : (begun : Opening) (one_line : Bool) (here : List ℕ) → (may_be_key begun one_line && is_key_colon begun here) ≡ true → begins 58 here ≡ true
keyed-begins Plain one_line here is = (and_parts (begins 58 here) (ends_scalar true (drop 1 here)) (and_parts one_line (begins 58 here && ends_scalar true (drop 1 here)) is).1).0
keyed-begins (Quoted single inside) one_line here is = is
keyed-begins FlowList one_line here is = is
keyed-begins OpenQuote one_line here is = absurd cc
keyed-begins FlowMap one_line here is = absurd cc
keyed-begins (Header style chomping) one_line here is = absurd cc
keyed-begins (Outside feature) one_line here is = absurd cc
keyed-begins Nothing one_line here is = absurd cc
