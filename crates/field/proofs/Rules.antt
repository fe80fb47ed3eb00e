-- The rules of the two tables, each by one test over the whole table.
use Rattle.std.proofs.Common.{◌≡◌, ℕ, zero, suc, ◌+◌, ◌%◌, ◌<◌, Bool, true, false, ◌&&◌, ◌||◌, T, eqb, ltb, ◌⊎◌, List, [], ◌∷◌, get_or, sym, refl, ap, ◌∙◌, inl, inr, zero-add, arith, eqb→eq, rules}
use Rattle.std.proofs.lemmas.Bool.{ltb-true, cases_eq}
use Rattle.field.specs.Field.{doubles, doubled, powers, place, exp, log}
use Rattle.field.proofs.Test.{at_place, at-below, from-T}

unfoldable pub exps : List ℕ
exps = 1 ∷ 2 ∷ 4 ∷ 8 ∷ 16 ∷ 32 ∷ 64 ∷ 128 ∷ 29 ∷ 58 ∷ 116 ∷ 232 ∷ 205 ∷ 135 ∷ 19 ∷ 38 ∷ 76 ∷ 152 ∷ 45 ∷ 90 ∷ 180 ∷ 117 ∷ 234 ∷ 201 ∷ 143 ∷ 3 ∷ 6 ∷ 12 ∷ 24 ∷ 48 ∷ 96 ∷ 192 ∷ 157 ∷ 39 ∷ 78 ∷ 156 ∷ 37 ∷ 74 ∷ 148 ∷ 53 ∷ 106 ∷ 212 ∷ 181 ∷ 119 ∷ 238 ∷ 193 ∷ 159 ∷ 35 ∷ 70 ∷ 140 ∷ 5 ∷ 10 ∷ 20 ∷ 40 ∷ 80 ∷ 160 ∷ 93 ∷ 186 ∷ 105 ∷ 210 ∷ 185 ∷ 111 ∷ 222 ∷ 161 ∷ 95 ∷ 190 ∷ 97 ∷ 194 ∷ 153 ∷ 47 ∷ 94 ∷ 188 ∷ 101 ∷ 202 ∷ 137 ∷ 15 ∷ 30 ∷ 60 ∷ 120 ∷ 240 ∷ 253 ∷ 231 ∷ 211 ∷ 187 ∷ 107 ∷ 214 ∷ 177 ∷ 127 ∷ 254 ∷ 225 ∷ 223 ∷ 163 ∷ 91 ∷ 182 ∷ 113 ∷ 226 ∷ 217 ∷ 175 ∷ 67 ∷ 134 ∷ 17 ∷ 34 ∷ 68 ∷ 136 ∷ 13 ∷ 26 ∷ 52 ∷ 104 ∷ 208 ∷ 189 ∷ 103 ∷ 206 ∷ 129 ∷ 31 ∷ 62 ∷ 124 ∷ 248 ∷ 237 ∷ 199 ∷ 147 ∷ 59 ∷ 118 ∷ 236 ∷ 197 ∷ 151 ∷ 51 ∷ 102 ∷ 204 ∷ 133 ∷ 23 ∷ 46 ∷ 92 ∷ 184 ∷ 109 ∷ 218 ∷ 169 ∷ 79 ∷ 158 ∷ 33 ∷ 66 ∷ 132 ∷ 21 ∷ 42 ∷ 84 ∷ 168 ∷ 77 ∷ 154 ∷ 41 ∷ 82 ∷ 164 ∷ 85 ∷ 170 ∷ 73 ∷ 146 ∷ 57 ∷ 114 ∷ 228 ∷ 213 ∷ 183 ∷ 115 ∷ 230 ∷ 209 ∷ 191 ∷ 99 ∷ 198 ∷ 145 ∷ 63 ∷ 126 ∷ 252 ∷ 229 ∷ 215 ∷ 179 ∷ 123 ∷ 246 ∷ 241 ∷ 255 ∷ 227 ∷ 219 ∷ 171 ∷ 75 ∷ 150 ∷ 49 ∷ 98 ∷ 196 ∷ 149 ∷ 55 ∷ 110 ∷ 220 ∷ 165 ∷ 87 ∷ 174 ∷ 65 ∷ 130 ∷ 25 ∷ 50 ∷ 100 ∷ 200 ∷ 141 ∷ 7 ∷ 14 ∷ 28 ∷ 56 ∷ 112 ∷ 224 ∷ 221 ∷ 167 ∷ 83 ∷ 166 ∷ 81 ∷ 162 ∷ 89 ∷ 178 ∷ 121 ∷ 242 ∷ 249 ∷ 239 ∷ 195 ∷ 155 ∷ 43 ∷ 86 ∷ 172 ∷ 69 ∷ 138 ∷ 9 ∷ 18 ∷ 36 ∷ 72 ∷ 144 ∷ 61 ∷ 122 ∷ 244 ∷ 245 ∷ 247 ∷ 243 ∷ 251 ∷ 235 ∷ 203 ∷ 139 ∷ 11 ∷ 22 ∷ 44 ∷ 88 ∷ 176 ∷ 125 ∷ 250 ∷ 233 ∷ 207 ∷ 131 ∷ 27 ∷ 54 ∷ 108 ∷ 216 ∷ 173 ∷ 71 ∷ 142 ∷ 1 ∷ 2 ∷ 4 ∷ 8 ∷ 16 ∷ 32 ∷ 64 ∷ 128 ∷ 29 ∷ 58 ∷ 116 ∷ 232 ∷ 205 ∷ 135 ∷ 19 ∷ 38 ∷ 76 ∷ 152 ∷ 45 ∷ 90 ∷ 180 ∷ 117 ∷ 234 ∷ 201 ∷ 143 ∷ 3 ∷ 6 ∷ 12 ∷ 24 ∷ 48 ∷ 96 ∷ 192 ∷ 157 ∷ 39 ∷ 78 ∷ 156 ∷ 37 ∷ 74 ∷ 148 ∷ 53 ∷ 106 ∷ 212 ∷ 181 ∷ 119 ∷ 238 ∷ 193 ∷ 159 ∷ 35 ∷ 70 ∷ 140 ∷ 5 ∷ 10 ∷ 20 ∷ 40 ∷ 80 ∷ 160 ∷ 93 ∷ 186 ∷ 105 ∷ 210 ∷ 185 ∷ 111 ∷ 222 ∷ 161 ∷ 95 ∷ 190 ∷ 97 ∷ 194 ∷ 153 ∷ 47 ∷ 94 ∷ 188 ∷ 101 ∷ 202 ∷ 137 ∷ 15 ∷ 30 ∷ 60 ∷ 120 ∷ 240 ∷ 253 ∷ 231 ∷ 211 ∷ 187 ∷ 107 ∷ 214 ∷ 177 ∷ 127 ∷ 254 ∷ 225 ∷ 223 ∷ 163 ∷ 91 ∷ 182 ∷ 113 ∷ 226 ∷ 217 ∷ 175 ∷ 67 ∷ 134 ∷ 17 ∷ 34 ∷ 68 ∷ 136 ∷ 13 ∷ 26 ∷ 52 ∷ 104 ∷ 208 ∷ 189 ∷ 103 ∷ 206 ∷ 129 ∷ 31 ∷ 62 ∷ 124 ∷ 248 ∷ 237 ∷ 199 ∷ 147 ∷ 59 ∷ 118 ∷ 236 ∷ 197 ∷ 151 ∷ 51 ∷ 102 ∷ 204 ∷ 133 ∷ 23 ∷ 46 ∷ 92 ∷ 184 ∷ 109 ∷ 218 ∷ 169 ∷ 79 ∷ 158 ∷ 33 ∷ 66 ∷ 132 ∷ 21 ∷ 42 ∷ 84 ∷ 168 ∷ 77 ∷ 154 ∷ 41 ∷ 82 ∷ 164 ∷ 85 ∷ 170 ∷ 73 ∷ 146 ∷ 57 ∷ 114 ∷ 228 ∷ 213 ∷ 183 ∷ 115 ∷ 230 ∷ 209 ∷ 191 ∷ 99 ∷ 198 ∷ 145 ∷ 63 ∷ 126 ∷ 252 ∷ 229 ∷ 215 ∷ 179 ∷ 123 ∷ 246 ∷ 241 ∷ 255 ∷ 227 ∷ 219 ∷ 171 ∷ 75 ∷ 150 ∷ 49 ∷ 98 ∷ 196 ∷ 149 ∷ 55 ∷ 110 ∷ 220 ∷ 165 ∷ 87 ∷ 174 ∷ 65 ∷ 130 ∷ 25 ∷ 50 ∷ 100 ∷ 200 ∷ 141 ∷ 7 ∷ 14 ∷ 28 ∷ 56 ∷ 112 ∷ 224 ∷ 221 ∷ 167 ∷ 83 ∷ 166 ∷ 81 ∷ 162 ∷ 89 ∷ 178 ∷ 121 ∷ 242 ∷ 249 ∷ 239 ∷ 195 ∷ 155 ∷ 43 ∷ 86 ∷ 172 ∷ 69 ∷ 138 ∷ 9 ∷ 18 ∷ 36 ∷ 72 ∷ 144 ∷ 61 ∷ 122 ∷ 244 ∷ 245 ∷ 247 ∷ 243 ∷ 251 ∷ 235 ∷ 203 ∷ 139 ∷ 11 ∷ 22 ∷ 44 ∷ 88 ∷ 176 ∷ 125 ∷ 250 ∷ 233 ∷ 207 ∷ 131 ∷ 27 ∷ 54 ∷ 108 ∷ 216 ∷ 173 ∷ 71 ∷ 142 ∷ []

unfoldable pub logs : List ℕ
logs = 0 ∷ 0 ∷ 1 ∷ 25 ∷ 2 ∷ 50 ∷ 26 ∷ 198 ∷ 3 ∷ 223 ∷ 51 ∷ 238 ∷ 27 ∷ 104 ∷ 199 ∷ 75 ∷ 4 ∷ 100 ∷ 224 ∷ 14 ∷ 52 ∷ 141 ∷ 239 ∷ 129 ∷ 28 ∷ 193 ∷ 105 ∷ 248 ∷ 200 ∷ 8 ∷ 76 ∷ 113 ∷ 5 ∷ 138 ∷ 101 ∷ 47 ∷ 225 ∷ 36 ∷ 15 ∷ 33 ∷ 53 ∷ 147 ∷ 142 ∷ 218 ∷ 240 ∷ 18 ∷ 130 ∷ 69 ∷ 29 ∷ 181 ∷ 194 ∷ 125 ∷ 106 ∷ 39 ∷ 249 ∷ 185 ∷ 201 ∷ 154 ∷ 9 ∷ 120 ∷ 77 ∷ 228 ∷ 114 ∷ 166 ∷ 6 ∷ 191 ∷ 139 ∷ 98 ∷ 102 ∷ 221 ∷ 48 ∷ 253 ∷ 226 ∷ 152 ∷ 37 ∷ 179 ∷ 16 ∷ 145 ∷ 34 ∷ 136 ∷ 54 ∷ 208 ∷ 148 ∷ 206 ∷ 143 ∷ 150 ∷ 219 ∷ 189 ∷ 241 ∷ 210 ∷ 19 ∷ 92 ∷ 131 ∷ 56 ∷ 70 ∷ 64 ∷ 30 ∷ 66 ∷ 182 ∷ 163 ∷ 195 ∷ 72 ∷ 126 ∷ 110 ∷ 107 ∷ 58 ∷ 40 ∷ 84 ∷ 250 ∷ 133 ∷ 186 ∷ 61 ∷ 202 ∷ 94 ∷ 155 ∷ 159 ∷ 10 ∷ 21 ∷ 121 ∷ 43 ∷ 78 ∷ 212 ∷ 229 ∷ 172 ∷ 115 ∷ 243 ∷ 167 ∷ 87 ∷ 7 ∷ 112 ∷ 192 ∷ 247 ∷ 140 ∷ 128 ∷ 99 ∷ 13 ∷ 103 ∷ 74 ∷ 222 ∷ 237 ∷ 49 ∷ 197 ∷ 254 ∷ 24 ∷ 227 ∷ 165 ∷ 153 ∷ 119 ∷ 38 ∷ 184 ∷ 180 ∷ 124 ∷ 17 ∷ 68 ∷ 146 ∷ 217 ∷ 35 ∷ 32 ∷ 137 ∷ 46 ∷ 55 ∷ 63 ∷ 209 ∷ 91 ∷ 149 ∷ 188 ∷ 207 ∷ 205 ∷ 144 ∷ 135 ∷ 151 ∷ 178 ∷ 220 ∷ 252 ∷ 190 ∷ 97 ∷ 242 ∷ 86 ∷ 211 ∷ 171 ∷ 20 ∷ 42 ∷ 93 ∷ 158 ∷ 132 ∷ 60 ∷ 57 ∷ 83 ∷ 71 ∷ 109 ∷ 65 ∷ 162 ∷ 31 ∷ 45 ∷ 67 ∷ 216 ∷ 183 ∷ 123 ∷ 164 ∷ 118 ∷ 196 ∷ 23 ∷ 73 ∷ 236 ∷ 127 ∷ 12 ∷ 111 ∷ 246 ∷ 108 ∷ 161 ∷ 59 ∷ 82 ∷ 41 ∷ 157 ∷ 85 ∷ 170 ∷ 251 ∷ 96 ∷ 134 ∷ 177 ∷ 187 ∷ 204 ∷ 62 ∷ 90 ∷ 203 ∷ 89 ∷ 95 ∷ 176 ∷ 156 ∷ 169 ∷ 160 ∷ 81 ∷ 11 ∷ 245 ∷ 22 ∷ 235 ∷ 122 ∷ 117 ∷ 44 ∷ 215 ∷ 79 ∷ 174 ∷ 213 ∷ 233 ∷ 230 ∷ 231 ∷ 173 ∷ 232 ∷ 116 ∷ 214 ∷ 244 ∷ 234 ∷ 168 ∷ 80 ∷ 88 ∷ 175 ∷ []

-- the table of powers is what doubling gives
exps-doubles : exps ≡ doubles 510 1
unfolding exps
exps-doubles = refl

doubled-more : (n i k : ℕ) → i < n → get_or (doubles n (exp k)) i 0 ≡ exp (k + i)
unfolding exp
doubled-more zero i k h = absurd (omega arith)
doubled-more (suc n) zero k h = let e : k ≡ k + 0 = omega arith in ap exp e
doubled-more (suc n) (suc i) k h = let e : suc k + i ≡ k + suc i = omega arith in doubled-more n i (suc k) (omega arith) ∙ ap exp e

exp-0 : 1 ≡ exp 0
unfolding exp
exp-0 = refl

pub exps-exp : (i : ℕ) → i < 510 → get_or exps i 0 ≡ exp i
exps-exp i h = ap (λ xs. get_or xs i 0) exps-doubles ∙ (ap (λ x. get_or (doubles 510 x) i 0) exp-0 ∙ (doubled-more 510 i 0 h ∙ ap exp (zero-add i)))

pub exp-again : exp 255 ≡ 1
unfolding exp
exp-again = refl

pub exp-more : (i : ℕ) → exp (suc i) ≡ doubled (exp i)
unfolding exp
exp-more i = refl

-- the powers come round
pub exp-mod : (n : ℕ) → exp (n % 255) ≡ exp n
exp-mod zero = refl
exp-mod (suc n) = go (cases_eq (n % 255) 254) (exp-mod n)
  where
    go : (n % 255 ≡ 254) ⊎ (n % 255 ≡ 254 → ⊥) → exp (n % 255) ≡ exp n → exp (suc n % 255) ≡ exp (suc n)
    go (inl e) h =
        let z : suc n % 255 ≡ 0 = omega arith in
        ap exp z ∙ (sym exp-0 ∙ (sym exp-again ∙ (exp-more 254 ∙ (ap (λ i. doubled (exp i)) (sym e) ∙ (ap doubled h ∙ sym (exp-more n))))))
    go (inr d) h =
        let z : suc n % 255 ≡ suc (n % 255) = omega arith in
        ap exp z ∙ (exp-more (n % 255) ∙ (ap doubled h ∙ sym (exp-more n)))

pub exp-at : (i : ℕ) → i < 510 → get_or exps i 0 ≡ exp (i % 255)
exp-at i h = exps-exp i h ∙ sym (exp-mod i)

abbrev placed : ℕ → ℕ → Bool
placed b x = eqb b 0 || (eqb x (place b powers 0) && ltb x 255)

or-and : (a b c : Bool) → a ≡ false → T (a || (b && c)) → T b × T c
or-and false true true e t = (tt, tt)
or-and false true false e t = absurd t
or-and false false c e t = absurd t
or-and true b c e t = absurd (let z : ◌≡◌ {A = ℕ} 0 1 = cc in omega arith)

pub or-rest : (a b : Bool) → T (a || b) → a ≡ false → T b
or-rest true b t e = absurd (let z : ◌≡◌ {A = ℕ} 0 1 = cc in omega arith)
or-rest false b t e = t

-- the table of exponents gives the place of each byte among the powers
logs-test : (b : ℕ) → b < 256 → T (placed b (get_or logs b 0))
unfolding powers logs
logs-test b h = at_place placed logs tt b h

pub log-at : (b : ℕ) → 0 < b → b < 256 → (get_or logs b 0 ≡ log b) × (get_or logs b 0 < 255)
unfolding log
log-at b p h =
    let t = or-and (eqb b 0) (eqb (get_or logs b 0) (place b powers 0)) (ltb (get_or logs b 0) 255) (search rules) (logs-test b h) in
    (eqb→eq _ _ t.0, ltb-true _ _ (from-T _ t.1))

-- each table undoes the other
abbrev back : ℕ → Bool
back b = eqb b 0 || eqb (get_or exps (get_or logs b 0) 0) b

back-test : (b : ℕ) → b < 256 → T (back b)
unfolding exps logs
back-test b h = at-below back 256 tt b h

pub exp-log : (b : ℕ) → 0 < b → b < 256 → exp (log b) ≡ b
exp-log b p h =
    let l = log-at b p h in
    sym (exps-exp (log b) (omega (arith, l.0, l.1))) ∙ (ap (λ k. get_or exps k 0) (sym l.0) ∙ eqb→eq _ _ (or-rest (eqb b 0) _ (back-test b h) (search rules)))

abbrev forth : ℕ → Bool
forth i = eqb (place (get_or exps i 0) powers 0) i

forth-test : (i : ℕ) → i < 255 → T (forth i)
unfolding exps powers
forth-test i h = at-below forth 255 tt i h

pub log-exp : (i : ℕ) → i < 255 → log (exp i) ≡ i
unfolding log
log-exp i h = ap (λ x. place x powers 0) (sym (exps-exp i (omega arith))) ∙ eqb→eq _ _ (forth-test i h)

pub log-below : (b : ℕ) → 0 < b → b < 256 → log b < 255
log-below b p h = let t = log-at b p h in omega (arith, t.0, t.1)

-- a power is a byte above 0
abbrev byte : ℕ → Bool
byte i = ltb 0 (get_or exps i 0) && ltb (get_or exps i 0) 256

and_both : (a b : Bool) → T (a && b) → (a ≡ true) × (b ≡ true)
and_both true true t = (refl, refl)
and_both true false t = absurd t
and_both false b t = absurd t

byte-test : (i : ℕ) → i < 255 → T (byte i)
unfolding exps
byte-test i h = at-below byte 255 tt i h

pub exp-byte : (i : ℕ) → (0 < exp i) × (exp i < 256)
exp-byte i =
    let m : i % 255 < 255 = omega arith in
    let t = and_both (ltb 0 (get_or exps (i % 255) 0)) (ltb (get_or exps (i % 255) 0) 256) (byte-test (i % 255) m) in
    let e : get_or exps (i % 255) 0 ≡ exp i = exps-exp (i % 255) (omega arith) ∙ exp-mod i in
    let lo = ltb-true 0 (get_or exps (i % 255) 0) t.0 in
    let hi = ltb-true (get_or exps (i % 255) 0) 256 t.1 in
    (omega (arith, e, lo), omega (arith, e, hi))
