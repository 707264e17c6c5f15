-- What the definitions say of texts that are written out.
use Rattle.std.proofs.Common.{◌≡◌, ℕ, List, [], ◌∷◌, codes, refl}
use Rattle.rg_text.specs.Faults.{AreNone}
use Rattle.rg_genet.specs.declared.fault.GraphFault.TheVariants.{Expected, NoMarking, UnknownState, NoEnd}
use Rattle.rg_genet.specs.Contents.{body, triples, markings, state_names, label_names, faults}
use Rattle.rg_genet.specs.Spells.{FirstFault}

-- a signal's edge is no name
edge : FirstFault (codes ".state graph\ns0 a+ s1\n.marking {s0}\n.end\n") (Expected 2)
edge = refl

-- what stands before the arcs is passed over, comments are left out, and nothing behind the end is read
abbrev steps : List ℕ
steps = codes "# three steps\n.model aba\n.inputs a\n.outputs b\n.state graph\ns0 a s1   # first\ns1 b s2\ns2 a s3\n.marking {s0}\n.end\nanything"

steps_right : AreNone (faults steps)
steps_right = tt

steps_states : state_names (triples (body steps)) ≡ codes "s0" ∷ codes "s1" ∷ codes "s2" ∷ codes "s3" ∷ []
steps_states = refl

steps_labels : label_names (triples (body steps)) ≡ codes "a" ∷ codes "b" ∷ []
steps_labels = refl

steps_marked : markings (body steps) ≡ (9, codes "s0") ∷ []
steps_marked = refl

-- braces need no blanks round them
tight : AreNone (faults (codes ".state graph\ns0 a s0\n\t.marking{s0 }\n.end"))
tight = tt

-- the end is missing, or stands in a line with more words
no_end : FirstFault (codes ".state graph\ns0 a s0\n.marking {s0}\n") NoEnd
no_end = refl

not_alone : FirstFault (codes ".state graph\ns0 a s0\n.marking {s0}\n.end .end\n") (Expected 4)
not_alone = refl

-- a second marking, an unknown one, and none
second : FirstFault (codes ".state graph\n.marking {s0}\n.marking {s0}\n.end\n") (Expected 3)
second = refl

unknown : FirstFault (codes ".state graph\n.marking {s1}\ns0 a s0\n.end\n") (UnknownState 2)
unknown = refl

none : FirstFault (codes ".state graph\ns0 a s0\n.end\n") NoMarking
none = refl

-- `.dummy`, `.marking` and `.end` before the arcs are passed over
before : FirstFault (codes ".dummy e\n.marking {s0}\n.end\n") NoEnd
before = refl
