pub mod BitNames
pub mod Certificates
pub mod Certified
pub mod CertificateLines
pub mod CertifiedLines
pub mod CertifiedAnswers
pub mod Steps
